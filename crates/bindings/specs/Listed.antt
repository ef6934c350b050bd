-- The bindings of variables that have so many values each, in lexicographic order and numbered from 0 (ISO/IEC 15909-1, modes of a
-- transition). A binding is a list with a number for each variable, below the number of the variable's values. The order and the
-- numbers are this project's own.
use Rattle.std.specs.Prelude.{◌≡◌, ℕ, ◌+◌, ◌*◌, ◌/◌, ◌%◌, ◌<◌, true, List, [], ◌∷◌, length, map, flat_map, slice_index}
use Rattle.std.specs.Cmp.Lexicographic.{slice_cmp}
use Rattle.std.specs.List.{range_with_len}
use Rattle.std.specs.Ordering.{is_lt, nat_cmp}

-- all bindings, where the variables have so many values: the first variable is the most significant
abbrev pub bindings : List ℕ → List (List ℕ)
bindings [] = [] ∷ []
bindings (size ∷ sizes) = flat_map (λ first. map (λ rest. first ∷ rest) (bindings sizes)) (range_with_len 0 size)

-- the product of some numbers
abbrev pub product : List ℕ → ℕ
product [] = 1
product (size ∷ sizes) = size * product sizes

-- the digits of a number, each below the size at its place: the first is the most significant
abbrev pub digits : List ℕ → ℕ → List ℕ
digits [] number = []
digits (size ∷ sizes) number = number / product sizes ∷ digits sizes (number % product sizes)

-- the number that has these digits
abbrev pub number_of : List ℕ → List ℕ → ℕ
number_of (size ∷ sizes) (first ∷ rest) = first * product sizes + number_of sizes rest
number_of _ _ = 0

-- there is one number for each variable, below the number of its values
pub record IsBinding (sizes binding : List ℕ) : Type 0 where
  pub many : length binding ≡ length sizes
  pub each : (at : ℕ) → at < length sizes → slice_index binding at < slice_index sizes at

-- a binding stands before another in lexicographic order
abbrev pub IsBefore : List ℕ → List ℕ → Type 0
IsBefore a b = is_lt (slice_cmp nat_cmp a b) ≡ true
