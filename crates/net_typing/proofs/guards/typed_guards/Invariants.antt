use Rattle.std.proofs.Common.{◌≡◌, drop}
use Rattle.multiset_terms.specs.Context.{Context}
use Rattle.multiset_terms.specs.Parts.{IsScope}
use Rattle.net_typing.specs.Rules.{first_over, transition_refusal}
use Rattle.net_typing.specs.Standing.{AreTypedBelow, IsTransitionGuard}
use Rattle.net_typing.proofs.guards.typed_guards.Given as goal

abbrev pub invariant-loop-transition : goal.invariant-loop-transition
invariant-loop-transition l = (ctx : Context) → IsScope ctx l.scope.domains l.scope.variables
    → AreTypedBelow (IsTransitionGuard ctx) l.transition-index l.transitions l.guards.items
    × (first_over (transition_refusal ctx) (drop l.transition-index l.transitions) ≡ first_over (transition_refusal ctx) l.transitions)
