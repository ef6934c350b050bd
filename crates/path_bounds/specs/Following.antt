-- This project's own. Bounds of places that follow a trail: each change keeps the bound that its place had before.
-- `bound_of` says what bounds that were named come to at a place.
use Rattle.std.specs.Prelude.{◌≡◌, ℕ, ◌<◌, List, map, take, length, slice_index_or}
use Rattle.path_bounds.specs.declared.trails.Named.{Named}

-- the bounds that a trail names
abbrev pub names_of : {B : Type 0} → List (Named B) → List (ℕ × ℕ)
names_of trail = map (λ n. (n.place, n.count)) trail

-- each place has what the bounds come to there
abbrev pub Follow : {B : Type 0} → B → (List (ℕ × ℕ) → ℕ → B) → List B → List (ℕ × ℕ) → Type 0
Follow none bound_of bounds named = (p : ℕ) → p < length bounds → slice_index_or bounds p none ≡ bound_of named p

-- each change keeps what the bounds before it come to at its place
abbrev pub AreUndoable : {B : Type 0} → (List (ℕ × ℕ) → ℕ → B) → ℕ → List (Named B) → Type 0
AreUndoable bound_of places trail = (k : ℕ) (d : Named _) → k < length trail
    → ((slice_index_or trail k d).place < places) × ((slice_index_or trail k d).before ≡ bound_of (names_of (take k trail)) (slice_index_or trail k d).place)

pub record IsTrail {B : Type 0} (none : B) (bound_of : List (ℕ × ℕ) → ℕ → B) (bounds : List B) (trail : List (Named B)) : Type 0 where
  pub follow : Follow none bound_of bounds (names_of trail)
  pub undoable : AreUndoable bound_of (length bounds) trail
