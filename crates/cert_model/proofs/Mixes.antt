-- The value of a combination of forms.
use Rattle.std.proofs.Common.{◌≡◌, Bool, true, false, List, [], ◌∷◌, map, ℤ, pos, negsuc, ◌+ℤ◌, ◌*ℤ◌, neg_ℤ, refl, arith}
use Rattle.std.specs.Prelude.{cond}
use Rattle.std.specs.List.{list_any}
use Rattle.std.proofs.lemmas.Int.{ints}
use Rattle.cert_model.specs.Sums.{sum_of, is_wide, products, is_true, judged}
use Rattle.cert_model.specs.declared.Check.TheVariants.{True, False, Wide}
use Rattle.cert_model.specs.Nets.{Counts, Net, all_places}
use Rattle.cert_model.specs.Forms.{Form, zero_form, value_at, denial, Part, mixed_coefficient, mixed}
use Rattle.cert_model.proofs.Weights.{mul_add, products-zero, products-neg, add_column, sum_of-append, sum_of-neg}

-- a true obligation has the right signs and its condition holds
pub judged_holds : (signed : Bool) (sums : List (List ℤ)) (holds : Bool) → is_true (judged signed sums holds) ≡ true → (signed ≡ true) × (holds ≡ true)
judged_holds signed sums holds h = cases signed (list_any is_wide sums) holds h
  where
    cases : (signed wide holds : Bool) → is_true (cond signed (cond wide Wide (cond holds True False)) False) ≡ true → (signed ≡ true) × (holds ≡ true)
    cases true true holds h = absurd cc
    cases true false true h = (refl, refl)
    cases true false false h = absurd cc
    cases false wide holds h = absurd cc

-- the parts' values, each times its multiplier
abbrev pub combined : Net → List Part → Counts → ℤ
combined net [] m = pos 0
combined net (part ∷ parts) m = combined net parts m +ℤ (part.multiplier *ℤ value_at net part.form m)

pub combined_is_mixed : (net : Net) (parts : List Part) (m : Counts) → combined net parts m ≡ value_at net (mixed parts) m
combined_is_mixed net [] m = omega (arith, ints, products-zero (all_places net) m)
combined_is_mixed net (part ∷ parts) m =
    let rest = combined_is_mixed net parts m in
    let column = add_column part.multiplier (λ p. sum_of (mixed_coefficient parts p)) part.form.coefficient (all_places net) m in
    let whole = mul_add part.multiplier (sum_of (products (all_places net) part.form.coefficient m)) (sum_of part.form.constant) in
    omega (arith, ints, rest, column, whole)

pub zero_form_is_zero : (net : Net) (m : Counts) → value_at net zero_form m ≡ pos 0
zero_form_is_zero net m = omega (arith, ints, products-zero (all_places net) m)

-- a form and its denial add up to -1
pub denial_value : (net : Net) (form : Form) (m : Counts) → value_at net (denial form) m +ℤ value_at net form m ≡ negsuc 0
denial_value net form m =
    let weights = products-neg (all_places net) form.coefficient m in
    let constants = sum_of-append (map neg_ℤ form.constant) (negsuc 0 ∷ []) in
    let negated = sum_of-neg form.constant in
    omega (arith, ints, weights, constants, negated)
