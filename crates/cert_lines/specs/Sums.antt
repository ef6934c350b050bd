-- The absolute values on one line, added up by what they stand on.
use Rattle.std.specs.Prelude.{ℕ, Bool, ◌^◌, ◌-◌, nat_lt, List, ◌∷◌, sum_by, unsigned_abs, decimal, Option, None, Some, if◌then◌else◌}
use Rattle.std.specs.List.{list_any}
use Rattle.std.specs.Str.{bytes_eq}
use Rattle.line_words.specs.declared.items.Weight.{Weight}
use Rattle.line_words.specs.declared.items.Factor.{Factor}
use Rattle.line_words.specs.declared.items.Multiplier.{Multiplier}
use Rattle.line_words.specs.declared.items.Multiplier.TheVariants.{Fact, Hypothesis}

-- what a coefficient stands on, and its absolute value: a weight counts for its place, whatever the colour
abbrev pub weight_amount : Weight → List ℕ × ℕ
weight_amount weight = (weight.place.place, unsigned_abs weight.value)

abbrev pub factor_amount : Factor → List ℕ × ℕ
factor_amount factor = (factor.fact, unsigned_abs factor.value)

-- a hypothesis goes by `@H`, which is no id
abbrev pub multiplier_amount : Multiplier → List ℕ × ℕ
multiplier_amount (Fact factor) = factor_amount factor
multiplier_amount (Hypothesis value number) = (64 ∷ decimal number, unsigned_abs value)

-- the sum of the amounts on one name
abbrev pub share : List ℕ → List ℕ × ℕ → ℕ
share name amount = if bytes_eq name amount.0 then amount.1 else 0

abbrev pub sum_on : List ℕ → List (List ℕ × ℕ) → ℕ
sum_on name amounts = sum_by (share name) amounts

-- whether those on one name add up past 2^63 - 1
abbrev pub are_past : List (List ℕ × ℕ) → Bool
are_past amounts = list_any (λ amount. nat_lt (2 ^ 63 - 1) (sum_on amount.0 amounts)) amounts

abbrev pub or_zero : Option ℕ → ℕ
or_zero None = 0
or_zero (Some sum) = sum
