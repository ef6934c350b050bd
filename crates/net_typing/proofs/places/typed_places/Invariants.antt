use Rattle.std.proofs.Common.{◌≡◌, drop}
use Rattle.multiset_terms.specs.Context.{Context}
use Rattle.multiset_terms.specs.Parts.{IsScope}
use Rattle.net_typing.specs.Rules.{first_over, place_refusal}
use Rattle.net_typing.specs.Standing.{AreTypedBelow, IsPlaceTyping}
use Rattle.net_typing.proofs.places.typed_places.Given as goal

abbrev pub invariant-loop-place : goal.invariant-loop-place
invariant-loop-place l = (ctx : Context) → IsScope ctx l.scope.domains l.scope.variables
    → AreTypedBelow (IsPlaceTyping ctx l.scope.domains) l.place-index l.places l.typed.items
    × (first_over (place_refusal ctx) (drop l.place-index l.places) ≡ first_over (place_refusal ctx) l.places)
