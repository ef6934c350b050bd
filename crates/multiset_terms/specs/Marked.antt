-- Marks, one for each number.
use Rattle.std.specs.Prelude.{◌≡◌, ℕ, Bool, ◌||◌, List, length, slice_get, Some}

-- the numbers of which a test is true are marked, and those that were marked before
abbrev pub AreMarked : (ℕ → Bool) → List Bool → List Bool → Type 0
AreMarked test old new = (length new ≡ length old) × ((v : ℕ) (mark : Bool) → slice_get old v ≡ Some mark → slice_get new v ≡ Some (mark || test v))

-- the same of numbers with names, where the test is of names
abbrev pub AreNamesMarked : List (List ℕ) → (List ℕ → Bool) → List Bool → List Bool → Type 0
AreNamesMarked names test old new = (v : ℕ) (name : List ℕ) (mark : Bool) → slice_get names v ≡ Some name → slice_get old v ≡ Some mark → slice_get new v ≡ Some (mark || test name)
