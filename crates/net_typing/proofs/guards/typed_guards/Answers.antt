use Rattle.std.proofs.Common.{◌+◌, sym, subst}
use Rattle.net_typing.specs.Rules.{first_over, transition_refusal}
use Rattle.net_typing.specs.Standing.{AreTypedBelow, IsTransitionGuard}
use Rattle.net_typing.proofs.Firsts.{first-more, guard-fits, guard-unfit, unfit-found}
use Rattle.net_typing.proofs.Gathered.{typed-more}
use Rattle.net_typing.proofs.guards.typed_guards.Goals as goal

pub returns-in-Err-clause-refused : goal.returns-in-Err-clause-refused
returns-in-Err-clause-refused c = λ ctx scope.
    let t = c.transition-item.result in
    c.of.ensures (first_over (transition_refusal ctx) c.args.transitions.now)
    (unfit-found (transition_refusal ctx) c.args.transitions.now c.loop-transition.transition-index t t.id c.in-Err.unfit c.loop-transition-test.true c.transition-item.is
    (guard-unfit ctx t c.in-Err.unfit (c.in-Err.ensures ctx scope)) (c.loop-transition.invariant ctx scope).1)

pub loop-transition-preserved : goal.loop-transition-preserved
loop-transition-preserved c = λ ctx scope.
    let ts = c.args.transitions.now in
    let i = c.loop-transition.transition-index in
    let t = c.transition-item.result in
    let before = c.loop-transition.invariant ctx scope in
    let found = c.in-Ok.ensures ctx scope in (
      subst (AreTypedBelow (IsTransitionGuard ctx) (i + 1) ts) (sym c.in_ok-push-in-Ok.ensures.items)
          (typed-more (IsTransitionGuard ctx) i ts c.loop-transition.guards.items t c.in-Ok.guard before.0 c.loop-transition-test.true c.transition-item.is found.0),
      first-more (transition_refusal ctx) ts i t c.loop-transition-test.true c.transition-item.is (guard-fits ctx t found.1) before.1,
    )
