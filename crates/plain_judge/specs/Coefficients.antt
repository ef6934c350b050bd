-- Coefficients as lists with one number per place.
use Rattle.std.specs.Prelude.{◌≡◌, ℕ, ◌<◌, List, [], length, ℤ, pos, ◌+ℤ◌, slice_index_or, slice_set}

-- the list with a value added at one place
abbrev pub raised : List ℤ → ℕ → ℤ → List ℤ
raised coefficients place value = slice_set coefficients place (slice_index_or coefficients place (pos 0) +ℤ value)

-- each coefficient has risen by what the function gives for the name of its place
abbrev pub Raises : List (List ℕ) → (List ℕ → ℤ) → List ℤ → List ℤ → Type 0
Raises names more old new =
    (place : ℕ) → place < length names → slice_index_or new place (pos 0) ≡ slice_index_or old place (pos 0) +ℤ more (slice_index_or names place [])
