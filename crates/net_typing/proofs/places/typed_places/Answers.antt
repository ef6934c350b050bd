use Rattle.std.proofs.Common.{◌≡◌, ◌+◌, arith, length, sym, subst}
use Rattle.net_typing.specs.Rules.{first_over, place_refusal}
use Rattle.net_typing.specs.Standing.{AreTypedBelow, IsPlaceTyping}
use Rattle.net_typing.proofs.Firsts.{first-more, unfit-found}
use Rattle.net_typing.proofs.Gathered.{typed-more}
use Rattle.net_typing.proofs.places.typed_places.Goals as goal

pub returns-in-Err-clause-refused : goal.returns-in-Err-clause-refused
returns-in-Err-clause-refused c = λ ctx scope.
    let p = c.place-item.result in
    c.of.ensures (first_over (place_refusal ctx) c.args.places.now)
    (unfit-found (place_refusal ctx) c.args.places.now c.loop-place.place-index p p.id c.in-Err.unfit c.loop-place-test.true c.place-item.is
    (c.in-Err.ensures ctx scope) (c.loop-place.invariant ctx scope).1)

pub loop-place-preserved : goal.loop-place-preserved
loop-place-preserved c = λ ctx scope.
    let d = c.args.scope.now.domains in
    let ps = c.args.places.now in
    let i = c.loop-place.place-index in
    let p = c.place-item.result in
    let before = c.loop-place.invariant ctx scope in
    let found = c.in-Ok.ensures ctx scope in (
      subst (AreTypedBelow (IsPlaceTyping ctx d) (i + 1) ps) (sym c.in_ok-push-in-Ok.ensures.items)
          (typed-more (IsPlaceTyping ctx d) i ps c.loop-place.typed.items p c.in-Ok.place before.0 c.loop-place-test.true c.place-item.is found.0),
      first-more (place_refusal ctx) ps i p c.loop-place-test.true c.place-item.is found.1 before.1,
    )

pub returns-clause-places : goal.returns-clause-places
returns-clause-places c = λ ctx scope.
    let ended : c.loop-place.place-index ≡ length c.args.places.now = omega (arith, c.loop-place-test.false, c.loop-place.auto.place-index-end) in
    subst (λ n. AreTypedBelow (IsPlaceTyping ctx c.args.scope.now.domains) n c.args.places.now c.loop-place.typed.items) ended (c.loop-place.invariant ctx scope).0
