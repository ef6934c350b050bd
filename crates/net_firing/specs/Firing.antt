-- Coloured firing: modes, enabling and the transition rule (ISO/IEC 15909-1, transition modes, enabling and firing).
use Rattle.std.specs.Prelude.{◌≡◌, ℕ, ◌+◌, ◌≤◌, Bool, true, false, ◌&&◌, List, [], ◌∷◌, nat_eq, slice_get, Some, sum_by, if◌then◌else◌}
use Rattle.std.specs.List.{list_all}
use Rattle.bindings.specs.Listed.{IsBinding}
use Rattle.pt_net.specs.declared.instances.Side.{Side}
use Rattle.pt_net.specs.declared.instances.Side.TheVariants.{Pre, Post}
use Rattle.net_firing.specs.Coloured.{ColouredArc, ColouredNet, ColouredTransition}
use Rattle.net_firing.specs.Markings.{HasColour, IsMarking, Marking, initial, tokens}

-- a mode of a transition: a binding that gives each of its variables a colour and no other a value, and for which the guard is true
pub record IsMode (t : ColouredTransition) (b : List ℕ) : Type 0 where
  pub bound : IsBinding t.sizes b
  pub guarded : t.guard b ≡ true

-- the arcs of a side between the transition and a place
abbrev pub is_side : Side → Side → Bool
is_side Pre Pre = true
is_side Post Post = true
is_side _ _ = false

abbrev pub joins : Side → ℕ → ColouredArc → Bool
joins side p a = is_side side a.side && nat_eq a.place p

-- how many tokens of a colour the arcs of a side move together: those that the transition takes from a place, and those that it puts there
abbrev pub moved : Side → ColouredTransition → List ℕ → ℕ → ℕ → ℕ
moved side t b p k = sum_by (λ a. if joins side p a then (a.value b).count k else 0) t.arcs

abbrev pub taken : ColouredTransition → List ℕ → ℕ → ℕ → ℕ
taken t b p k = moved Pre t b p k

abbrev pub put : ColouredTransition → List ℕ → ℕ → ℕ → ℕ
put t b p k = moved Post t b p k

-- all arcs have a value
abbrev pub are_defined : ColouredTransition → List ℕ → Bool
are_defined t b = list_all (λ a. (a.value b).is_defined) t.arcs

-- a transition fires in a mode where what it takes is there; the new marking is the old one without what is taken and with what is put
pub record Fires (net : ColouredNet) (old : Marking) (t : ColouredTransition) (b : List ℕ) (new : Marking) : Type 0 where
  pub mode : IsMode t b
  pub defined : are_defined t b ≡ true
  pub enabled : (p k : ℕ) → HasColour net p k → taken t b p k ≤ tokens old p k
  pub marking : IsMarking net new
  pub fired : (p k : ℕ) → HasColour net p k → tokens new p k + taken t b p k ≡ tokens old p k + put t b p k

-- a transition, by its number, with a binding
pub record Mode : Type 0 where
  pub transition : ℕ
  pub binding : List ℕ

-- the transition of a number fires with a binding
abbrev pub FiresAt : ColouredNet → Marking → Mode → Marking → Type 0
FiresAt net old mode new = (t : ColouredTransition) × ((slice_get net.transitions mode.transition ≡ Some t) × Fires net old t mode.binding new)

-- these fire one after another, from `old` to `new`
abbrev pub Run : ColouredNet → Marking → List Mode → Marking → Type 0
Run net old [] new = new ≡ old
Run net old (mode ∷ modes) new = (mid : Marking) × (FiresAt net old mode mid × Run net mid modes new)

-- a finite list of them leads from the initial marking to this one
abbrev pub Reach : ColouredNet → Marking → Type 0
Reach net m = (modes : List Mode) × Run net (initial net) modes m
