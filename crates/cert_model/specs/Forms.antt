-- Forms (this project's own): a whole number per place and a constant.
use Rattle.std.specs.Prelude.{◌≡◌, ℕ, List, [], ◌∷◌, ◌++◌, map, true, ℤ, pos, negsuc, ◌+ℤ◌, ◌*ℤ◌, neg_ℤ, int_le}
use Rattle.cert_model.specs.Sums.{sum_of, products}
use Rattle.cert_model.specs.Nets.{Counts, Net, all_places}

pub record Form : Type 0 where
  -- the coefficient on each place
  pub coefficient : ℕ → ℤ
  -- the terms that add up to the constant
  pub constant : List ℤ

abbrev pub zero_form : Form
zero_form = record { coefficient = λ p. pos 0; constant = [] }

-- the value of a form at a marking
abbrev pub value_at : Net → Form → Counts → ℤ
value_at net form marking = sum_of (products (all_places net) form.coefficient marking) +ℤ sum_of form.constant

abbrev pub NotNegative : ℤ → Type 0
NotNegative z = int_le (pos 0) z ≡ true

-- minus the form, less 1: not negative exactly where the form is
abbrev pub denial : Form → Form
denial form = record { coefficient = λ p. neg_ℤ (form.coefficient p); constant = map neg_ℤ form.constant ++ negsuc 0 ∷ [] }

-- one summand of a combination: a multiplier and a form
pub record Part : Type 0 where
  pub multiplier : ℤ
  pub form : Form

-- the terms of a combination's coefficient at one place
abbrev pub mixed_coefficient : List Part → ℕ → List ℤ
mixed_coefficient parts p = map (λ part. part.multiplier *ℤ part.form.coefficient p) parts

-- the terms of a combination's constant
abbrev pub mixed_constant : List Part → List ℤ
mixed_constant parts = map (λ part. part.multiplier *ℤ sum_of part.form.constant) parts

-- the sum of the multipliers times the forms
abbrev pub mixed : List Part → Form
mixed parts = record { coefficient = λ p. sum_of (mixed_coefficient parts p); constant = mixed_constant parts }

-- the sums of a combination: the constants that it uses, its coefficients and its constant
abbrev pub mixed_sums : Net → List Part → List (List ℤ)
mixed_sums net parts = map (λ part. part.form.constant) parts ++ map (mixed_coefficient parts) (all_places net) ++ mixed_constant parts ∷ []
