-- How the place instances and the candidate bindings of a net are numbered.
use Rattle.std.specs.Prelude.{◌≡◌, ℕ, ◌+◌, List, length, slice_index}
use Rattle.std.specs.List.Sorted.{IsNonDecreasing}

-- the names of the places, the first instance of each and at the end their number, the names of the transitions, and how many candidate bindings each has
pub record NetNumbering : Type 0 where
  pub places : List (List ℕ)
  pub starts : List ℕ
  pub transitions : List (List ℕ)
  pub bindings : List ℕ

abbrev pub numbering_of : List (List ℕ) → List ℕ → List (List ℕ) → List ℕ → NetNumbering
numbering_of places starts transitions bindings = record { places = places; starts = starts; transitions = transitions; bindings = bindings }

-- what is true of each: the starts begin with 0 and never fall, and the lists are as long as they have to be
pub record IsNumbering (l : NetNumbering) : Type 0 where
  pub begins : slice_index l.starts 0 ≡ 0
  pub rising : IsNonDecreasing l.starts
  pub one_more : length l.starts ≡ length l.places + 1
  pub each_transition : length l.bindings ≡ length l.transitions
