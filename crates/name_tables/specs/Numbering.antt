-- Names with numbers: a list of names, each numbered by its place.
use Rattle.std.specs.Prelude.{◌≡◌, ℕ, List, [], ◌∷◌, ◌++◌, length, Option, None, Some, position}
use Rattle.std.specs.Str.{bytes_eq}
use Rattle.name_tables.specs.declared.numbering.Added.{Added}
use Rattle.name_tables.specs.declared.numbering.Added.TheVariants.{New, Old}

-- the number of a name, where it is there
abbrev pub number_in : List (List ℕ) → List ℕ → Option ℕ
number_in names name = position (bytes_eq name) names

-- what adding a name answers and leaves: a new name goes last, and an old one keeps its number
abbrev pub IsAdded : List (List ℕ) → List ℕ → Added → List (List ℕ) → Type 0
IsAdded before name (New at) after = (number_in before name ≡ None) × (at ≡ length before) × (after ≡ before ++ name ∷ [])
IsAdded before name (Old at) after = (number_in before name ≡ Some at) × (after ≡ before)
