-- Firing of the net of a file (ISO/IEC 15909-1, the transition rule), on markings that are lists of counts.
use Rattle.std.specs.Prelude.{◌≡◌, ℕ, ◌+◌, ◌-◌, ◌≤◌, ◌&&◌, List, [], ◌∷◌, map, Contains, bytes_eq, if◌then◌else◌}
use Rattle.plain_model.specs.declared.nets.Arc.{Arc}
use Rattle.plain_model.specs.declared.nets.PlainNet.{PlainNet}

-- the inscription of the arc where it leads from the first node to the second, else 0
abbrev pub weight_between : List ℕ → List ℕ → Arc → ℕ
weight_between from to arc = if bytes_eq arc.source from && bytes_eq arc.target to then arc.weight else 0

-- several arcs between the same two nodes add up
abbrev pub total_weight : List Arc → List ℕ → List ℕ → ℕ
total_weight [] from to = 0
total_weight (arc ∷ arcs) from to = weight_between from to arc + total_weight arcs from to

-- what the transition takes: one count per place, in the order of the places
abbrev pub inputs : PlainNet → List ℕ → List ℕ
inputs net transition = map (λ place. total_weight net.arcs place.id transition) net.places

-- what the transition puts: one count per place
abbrev pub outputs : PlainNet → List ℕ → List ℕ
outputs net transition = map (λ place. total_weight net.arcs transition place.id) net.places

-- the initial marking
abbrev pub initial : PlainNet → List ℕ
initial net = map (λ place. place.marking) net.places

-- two lists of one length, and each count of the second is at most that of the first
abbrev pub Covers : List ℕ → List ℕ → Type 0
Covers [] [] = Unit {0}
Covers (count ∷ marking) (need ∷ needs) = (need ≤ count) × Covers marking needs
Covers [] (need ∷ needs) = ⊥
Covers (count ∷ marking) [] = ⊥

-- the marking without what is taken, and then with what is put
abbrev pub moved : List ℕ → List ℕ → List ℕ → List ℕ
moved (count ∷ marking) (take ∷ takes) (put ∷ puts) = (count - take + put) ∷ moved marking takes puts
moved _ _ _ = []

-- the transition is enabled at the old marking, and firing it gives the new one
pub record Fires (net : PlainNet) (old : List ℕ) (transition : List ℕ) (new : List ℕ) : Type 0 where
  pub enabled : Covers old (inputs net transition)
  pub moves : new ≡ moved old (inputs net transition) (outputs net transition)

-- firing these transitions one after the other leads from the first marking to the second
abbrev pub Run : PlainNet → List ℕ → List (List ℕ) → List ℕ → Type 0
Run net old [] new = new ≡ old
Run net old (transition ∷ transitions) new = Contains net.transitions transition × ((middle : List ℕ) × (Fires net old transition middle × Run net middle transitions new))

-- a finite list of firings leads from the initial marking to this one
abbrev pub Reach : PlainNet → List ℕ → Type 0
Reach net marking = (transitions : List (List ℕ)) × Run net (initial net) transitions marking
