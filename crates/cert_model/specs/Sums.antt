-- Sums of whole numbers, how large they are, and judging by them (this project's own).
use Rattle.std.specs.Prelude.{ℕ, ◌^◌, List, map, Bool, true, false, nat_le, ℤ, pos, ◌*ℤ◌, if◌then◌else◌}
use Rattle.std.specs.List.{list_any}
use Rattle.wide_sums.specs.Total.{total_of}
use Rattle.cert_model.specs.declared.Check.{Check}
use Rattle.cert_model.specs.declared.Check.TheVariants.{True, False, Wide}

-- the sum of the terms
abbrev pub sum_of : List ℤ → ℤ
sum_of terms = (total_of terms).value

-- the absolute values of the terms add up past 2^127 - 1
abbrev pub is_wide : List ℤ → Bool
is_wide terms = nat_le (2 ^ 127) (total_of terms).size

-- each place's coefficient times its count
abbrev pub products : List ℕ → (ℕ → ℤ) → (ℕ → ℕ) → List ℤ
products places coefficient counts = map (λ p. coefficient p *ℤ pos (counts p)) places

abbrev pub is_true : Check → Bool
is_true True = true
is_true False = false
is_true Wide = false

-- false where a sign rule is broken or something named isn't there, else out of range where a
-- listed sum is, else whether the condition holds
abbrev pub judged : Bool → List (List ℤ) → Bool → Check
judged signed sums holds = if signed then if list_any is_wide sums then Wide else if holds then True else False else False
