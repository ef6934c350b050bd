-- A sum of whole numbers together with the sum of their absolute values.
use Rattle.std.specs.Prelude.{ℕ, ℤ, pos, ◌+◌, ◌+ℤ◌, unsigned_abs, List, [], ◌∷◌}

-- `value` is the sum of the terms, and `size` is the sum of their absolute values
pub record Total : Type 0 where
  pub value : ℤ
  pub size : ℕ

-- the total of no terms
abbrev pub zero_total : Total
zero_total = record { value = pos 0; size = 0 }

-- the total with one more term
abbrev pub with_term : Total → ℤ → Total
with_term total term = record { value = total.value +ℤ term; size = total.size + unsigned_abs term }

-- two totals together
abbrev pub joined : Total → Total → Total
joined a b = record { value = a.value +ℤ b.value; size = a.size + b.size }

-- the total of a list of terms
abbrev pub total_of : List ℤ → Total
total_of [] = zero_total
total_of (x ∷ xs) = with_term (total_of xs) x
