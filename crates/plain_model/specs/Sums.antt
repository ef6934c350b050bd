-- Sums of whole numbers, and how large they are.
use Rattle.std.specs.Prelude.{ℕ, ◌^◌, List, [], ◌∷◌, Bool, nat_le, ℤ, pos, ◌*ℤ◌}
use Rattle.wide_sums.specs.Total.{total_of}

-- the sum of the terms
abbrev pub sum_of : List ℤ → ℤ
sum_of terms = (total_of terms).value

-- the absolute values of the terms add up past 2^127 - 1
abbrev pub is_wide : List ℤ → Bool
is_wide terms = nat_le (2 ^ 127) (total_of terms).size

-- each coefficient times the count of its place
abbrev pub products : List ℤ → List ℕ → List ℤ
products (coefficient ∷ coefficients) (count ∷ counts) = (coefficient *ℤ pos count) ∷ products coefficients counts
products _ _ = []
