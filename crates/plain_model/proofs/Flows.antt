-- A flow whose steps are all true has its first value at every reached marking.
use Rattle.std.proofs.Common.{◌≡◌, ℕ, zero, suc, ◌+◌, ◌-◌, ◌≤◌, Bool, true, false, List, [], ◌∷◌, map, length, ℤ, pos, negsuc, ◌+ℤ◌, ◌*ℤ◌, neg_ℤ, refl, sym, ◌∙◌, ap, subst, arith, nat_eq}
use Rattle.std.specs.Prelude.{unsigned_abs, cond, bytes_eq}
use Rattle.std.specs.List.{list_all, list_any}
use Rattle.std.proofs.lemmas.Int.{ints}
use Rattle.std.proofs.lemmas.List.{length-map}
use Rattle.std.proofs.lemmas.Bool.Decides.{nat_tests}
use Rattle.plain_model.specs.declared.nets.PlainNet.{PlainNet}
use Rattle.plain_model.specs.declared.certificates.Flow.{Flow}
use Rattle.plain_model.specs.declared.verdicts.Check.TheVariants as check
use Rattle.plain_model.specs.Firing.{inputs, outputs, initial, Covers, moved, Fires, Run, Reach}
use Rattle.plain_model.specs.Sums.{sum_of, is_wide, products}
use Rattle.plain_model.specs.Forms.{Form, coefficients, value_at, flow_slack, flow_slack_of}
use Rattle.plain_model.specs.Obligations.{judged, step_terms, flow_check, is_true}
use Rattle.plain_model.proofs.Products.{mul_counts, sum_of-append, sum_of-neg, and_split, products-zero}
use Rattle.plain_model.proofs.Lists.{list_all-contains}

-- one place: a count without what is taken and with what is put
moved_count : (y : ℤ) (count take put : ℕ) → take ≤ count → (y *ℤ pos (count - take + put)) +ℤ (y *ℤ pos take) ≡ (y *ℤ pos count) +ℤ (y *ℤ pos put)
moved_count y count take put fits =
    let first : y *ℤ pos ((count - take) + put) ≡ (y *ℤ pos (count - take)) +ℤ (y *ℤ pos put) = mul_counts y (count - take) put in
    let second : y *ℤ pos ((count - take) + take) ≡ (y *ℤ pos (count - take)) +ℤ (y *ℤ pos take) = mul_counts y (count - take) take in
    let same : (count - take) + take ≡ count = omega arith in
    let whole : y *ℤ pos count ≡ (y *ℤ pos (count - take)) +ℤ (y *ℤ pos take) = subst (λ n. y *ℤ pos n ≡ (y *ℤ pos (count - take)) +ℤ (y *ℤ pos take)) same second in
    omega (arith, ints, first, whole)

-- what a firing does to a weighted sum
moved_sum : (ys : List ℤ) (marking takes puts : List ℕ) → Covers marking takes → length puts ≡ length takes
    → sum_of (products ys (moved marking takes puts)) +ℤ sum_of (products ys takes) ≡ sum_of (products ys marking) +ℤ sum_of (products ys puts)
moved_sum [] marking takes puts covers same = refl
moved_sum (y ∷ ys) [] [] [] covers same = refl
moved_sum (y ∷ ys) [] [] (put ∷ puts) covers same = absurd (omega arith)
moved_sum (y ∷ ys) [] (take ∷ takes) puts covers same = absurd covers
moved_sum (y ∷ ys) (count ∷ marking) [] puts covers same = absurd covers
moved_sum (y ∷ ys) (count ∷ marking) (take ∷ takes) [] covers same = absurd (omega arith)
moved_sum (y ∷ ys) (count ∷ marking) (take ∷ takes) (put ∷ puts) covers same =
    let rest : sum_of (products ys (moved marking takes puts)) +ℤ sum_of (products ys takes) ≡ sum_of (products ys marking) +ℤ sum_of (products ys puts) =
    moved_sum ys marking takes puts covers.1 (omega arith) in
    let here = moved_count y count take put covers.0 in
    omega (arith, ints, rest, here)

abs_zero : (z : ℤ) → nat_eq (unsigned_abs z) 0 ≡ true → z ≡ pos 0
abs_zero (pos zero) h = refl
abs_zero (pos (suc n)) h = absurd (grind (arith, nat_tests))
abs_zero (negsuc n) h = absurd (grind (arith, nat_tests))

-- a true obligation is in range and its condition holds
pub judged_holds : (sums : List (List ℤ)) (holds : Bool) → is_true (judged sums holds) ≡ true → (list_any is_wide sums ≡ false) × (holds ≡ true)
judged_holds sums holds h = cases (list_any is_wide sums) holds h
  where
    cases : (wide holds : Bool) → is_true (cond wide check.Wide (cond holds check.True check.False)) ≡ true → (wide ≡ false) × (holds ≡ true)
    cases true true h = absurd cc
    cases true false h = absurd cc
    cases false true h = (refl, refl)
    cases false false h = absurd cc

module _ (net : PlainNet) (flow : Flow) where
  ys : List ℤ
  ys = coefficients net (flow_slack net flow)

  step_keeps : (old transition new : List ℕ) → is_true (flow_check net flow transition) ≡ true → Fires net old transition new
      → sum_of (products (coefficients net (flow_slack net flow)) new) ≡ sum_of (products (coefficients net (flow_slack net flow)) old)
  step_keeps old transition new holds fires =
      let cs : List ℤ = coefficients net (flow_slack net flow) in
      let ins : List ℕ = inputs net transition in
      let outs : List ℕ = outputs net transition in
      let zero_sum = abs_zero (sum_of (step_terms (coefficients net (flow_slack net flow)) (inputs net transition) (outputs net transition))) (judged_holds (step_terms (coefficients net (flow_slack net flow)) (inputs net transition) (outputs net transition) ∷ []) (nat_eq (unsigned_abs (sum_of (step_terms (coefficients net (flow_slack net flow)) (inputs net transition) (outputs net transition)))) 0) holds).1 in
      let split = sum_of-append (products cs outs) (map neg_ℤ (products cs ins)) in
      let negated = sum_of-neg (products cs ins) in
      let same : length outs ≡ length ins = length-map net.places _ ∙ sym (length-map net.places _) in
      let sums = moved_sum cs old ins outs fires.enabled same in
      ap (λ m. sum_of (products cs m)) fires.moves ∙ omega (arith, ints, zero_sum, split, negated, sums)

  run_keeps : (old : List ℕ) (transitions : List (List ℕ)) (new : List ℕ)
      → list_all (λ t. is_true (flow_check net flow t)) net.transitions ≡ true → Run net old transitions new
      → sum_of (products (coefficients net (flow_slack net flow)) new) ≡ sum_of (products (coefficients net (flow_slack net flow)) old)
  run_keeps old [] new holds run = ap (λ m. sum_of (products (coefficients net (flow_slack net flow)) m)) run
  run_keeps old (t ∷ ts) new holds (there, (middle, (fires, run))) =
      run_keeps middle ts new holds run ∙ step_keeps old t middle (list_all-contains (λ u. is_true (flow_check net flow u)) net.transitions t holds there) fires

  -- the slack of the flow is 0 at every reached marking
  pub flow_slack_is_zero : (marking : List ℕ) → list_all (λ t. is_true (flow_check net flow t)) net.transitions ≡ true → Reach net marking
      → value_at net (flow_slack net flow) marking ≡ pos 0
  flow_slack_is_zero marking holds (transitions, run) =
      let kept = run_keeps (initial net) transitions marking holds run in
      let negated = sum_of-neg (products (coefficients net (flow_slack net flow)) (initial net)) in
      omega (arith, ints, kept, negated)

chosen_value : (net : PlainNet) (marking : List ℕ) (b : Bool) (x y : Form) → value_at net x marking ≡ pos 0 → value_at net y marking ≡ pos 0 → value_at net (cond b x y) marking ≡ pos 0
chosen_value net marking true x y p q = p
chosen_value net marking false x y p q = q

-- so is the slack of whatever flow a name stands for
pub named_slack_is_zero : (net : PlainNet) (flows : List Flow) (name marking : List ℕ)
    → list_all (λ flow. list_all (λ t. is_true (flow_check net flow t)) net.transitions) flows ≡ true → Reach net marking
    → value_at net (flow_slack_of net flows name) marking ≡ pos 0
named_slack_is_zero net [] name marking holds reach = omega (arith, ints, products-zero net.places marking)
named_slack_is_zero net (flow ∷ flows) name marking holds reach =
    let parts = and_split (list_all (λ t. is_true (flow_check net flow t)) net.transitions) (list_all (λ f. list_all (λ t. is_true (flow_check net f t)) net.transitions) flows) holds in
    chosen_value net marking (bytes_eq name flow.name) (flow_slack net flow) (flow_slack_of net flows name)
    (flow_slack_is_zero net flow marking parts.0 reach) (named_slack_is_zero net flows name marking parts.1 reach)
