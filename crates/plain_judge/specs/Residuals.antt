-- The residual of a `close` line.
use Rattle.std.specs.Prelude.{◌≡◌, ℕ, ◌^◌, ◌<◌, ◌≤◌, List, map, length, ◌⊎◌, ℤ, pos, ◌*ℤ◌, slice_index_or}
use Rattle.wide_sums.specs.Total.{Total, total_of, with_term, zero_total}
use Rattle.plain_model.specs.declared.nets.Place.{Place}

-- the initial counts of the places
abbrev pub markings : List Place → List ℕ
markings places = map (λ place. place.marking) places

-- the sum of one place with the multiplied coefficient as one more term
abbrev pub sum_with_part : ℤ → List ℤ → List Total → ℕ → Total
sum_with_part multiplier coefficients sums place = with_term (slice_index_or sums place zero_total) (multiplier *ℤ slice_index_or coefficients place (pos 0))

-- each sum has got that term
abbrev pub AddsPart : ℤ → List ℤ → List Total → List Total → Type 0
AddsPart multiplier coefficients old new =
    (place : ℕ) → place < length coefficients → slice_index_or new place zero_total ≡ sum_with_part multiplier coefficients old place

-- with that term each sum is in range
abbrev pub FitPart : ℤ → List ℤ → List Total → Type 0
FitPart multiplier coefficients sums =
    (place : ℕ) → place < length coefficients → (sum_with_part multiplier coefficients sums place).size < 2 ^ 127

-- with that term the sum of some place is out of range
abbrev pub IsPartWide : ℤ → List ℤ → List Total → Type 0
IsPartWide multiplier coefficients sums =
    (place : ℕ) × (place < length coefficients) × (2 ^ 127 ≤ (sum_with_part multiplier coefficients sums place).size)

-- the sums of the first places are in range
abbrev pub AreInRange : ℕ → List Total → Type 0
AreInRange count sums = (place : ℕ) → place < count → (slice_index_or sums place zero_total).size < 2 ^ 127

-- the sum of some place is out of range with that term, or the total of the constant's terms is
abbrev pub IsSettledWide : ℤ → List ℤ → List Total → List ℤ → Type 0
IsSettledWide multiplier coefficients sums terms = IsPartWide multiplier coefficients sums ⊎ (2 ^ 127 ≤ (total_of terms).size)
