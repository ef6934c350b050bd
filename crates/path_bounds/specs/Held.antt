-- This project's own. Bounds that are named along a path: places and counts, in the order in which they were named.
use Rattle.std.specs.Prelude.{◌≡◌, ℕ, ◌<◌, List, [], ◌∷◌, ◌++◌, take, length, Option, None, slice_index_or}
use Rattle.cert_model.specs.Paths.{lower_of, upper_of}

pub record Held : Type 0 where
  pub places : ℕ
  -- how many lower bounds, and how many upper ones, can be named at a time
  pub room : ℕ
  pub lowers : List (ℕ × ℕ)
  pub uppers : List (ℕ × ℕ)

abbrev pub nothing_named : ℕ → Held
nothing_named places = record { places = places; room = 0; lowers = []; uppers = [] }

abbrev pub with_room : ℕ → Held → Held
with_room room held = record held { room = room }

abbrev pub with_lower : ℕ → ℕ → Held → Held
with_lower place count held = record held { lowers = held.lowers ++ (place, count) ∷ [] }

abbrev pub with_upper : ℕ → ℕ → Held → Held
with_upper place count held = record held { uppers = held.uppers ++ (place, count) ∷ [] }

-- those that were named first, so many of each kind
abbrev pub cut_to : ℕ → ℕ → Held → Held
cut_to lowers uppers held = record held { lowers = take lowers held.lowers; uppers = take uppers held.uppers }

-- each place has the greatest of its lower bounds, 0 where it has none, and the least of its upper ones, where it has one
pub record AreBounds (held : Held) (lower : List ℕ) (upper : List (Option ℕ)) : Type 0 where
  pub all_lower : length lower ≡ held.places
  pub all_upper : length upper ≡ held.places
  pub lower_at : (p : ℕ) → p < held.places → slice_index_or lower p 0 ≡ lower_of held.lowers p
  pub upper_at : (p : ℕ) → p < held.places → slice_index_or upper p None ≡ upper_of held.uppers p
