-- A reduced net and its runs (ISO/IEC 15909-1): places and instances by number, rows and markings as functions from places
-- to counts.
use Rattle.std.specs.Prelude.{◌≡◌, ℕ, ◌+◌, ◌≤◌, List, [], ◌∷◌, Contains}
use Rattle.std.specs.List.{range_with_len}

-- how many tokens are at each place
abbrev pub Counts : Type 0
Counts = ℕ → ℕ

-- a kept instance: its number, what it takes and what it puts
pub record Instance : Type 0 where
  pub number : ℕ
  pub pre : Counts
  pub post : Counts

-- a live instance: its transition, and its inputs, each a place and a count
pub record Live : Type 0 where
  pub transition : ℕ
  pub needs : List (ℕ × ℕ)

pub record Net : Type 0 where
  -- how many places there are
  pub places : ℕ
  pub initial : Counts
  pub kept : List Instance
  pub live : List Live

-- the numbers of the places
abbrev pub all_places : Net → List ℕ
all_places net = range_with_len 0 net.places

-- the instance is enabled at the old marking, and firing it gives the new one
pub record Fires (old : Counts) (instance : Instance) (new : Counts) : Type 0 where
  pub enabled : (p : ℕ) → instance.pre p ≤ old p
  pub moves : (p : ℕ) → new p + instance.pre p ≡ old p + instance.post p

-- firing these instances one after the other leads from the first marking to the second
abbrev pub Run : Net → Counts → List Instance → Counts → Type 0
Run net old [] new = new ≡ old
Run net old (i ∷ is) new = Contains net.kept i × ((middle : Counts) × (Fires old i middle × Run net middle is new))

-- a finite list of kept instances leads from the initial marking to this one
abbrev pub Reach : Net → Counts → Type 0
Reach net marking = (is : List Instance) × Run net net.initial is marking
