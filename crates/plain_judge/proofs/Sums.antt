-- Laws of the sums of a residual.
use Rattle.std.proofs.Common.{◌≡◌, ◌≢◌, ℕ, ◌+◌, ◌^◌, ◌<◌, ◌≤◌, List, ℤ, sym, ◌∙◌, ap, subst, arith, length, get_or, set, get_or-set_same, get_or-set_other, ◌⊎◌, inl, inr}
use Rattle.wide_sums.specs.Total.{Total, zero_total}
use Rattle.plain_judge.specs.Residuals.{sum_with_part}

below_or_here : (p i : ℕ) → p < i + 1 → (p < i) ⊎ (p ≡ i)
below_or_here p i h = grind arith

-- one sum more has its term
pub parts_more : (multiplier : ℤ) (ys : List ℤ) (old now : List Total) (i : ℕ) (sum : Total) → i < length now
    → ((p : ℕ) → p < i → get_or now p zero_total ≡ sum_with_part multiplier ys old p)
    → sum ≡ sum_with_part multiplier ys old i
    → (p : ℕ) → p < i + 1 → get_or (set now i sum) p zero_total ≡ sum_with_part multiplier ys old p
parts_more multiplier ys old now i sum within before is p below = cases (below_or_here p i below)
  where
    cases : (p < i) ⊎ (p ≡ i) → get_or (set now i sum) p zero_total ≡ sum_with_part multiplier ys old p
    cases (inl lower) = let other : p ≢ i = omega arith in rw get_or-set_other (before p lower)
    cases (inr here) = ap (λ q. get_or (set now i sum) q zero_total) here ∙ (rw get_or-set_same is) ∙ ap (sum_with_part multiplier ys old) (sym here)

pub rest_stays : (old now : List Total) (i : ℕ) (sum : Total)
    → ((p : ℕ) → i ≤ p → get_or now p zero_total ≡ get_or old p zero_total)
    → (p : ℕ) → i + 1 ≤ p → get_or (set now i sum) p zero_total ≡ get_or old p zero_total
rest_stays old now i sum before p above = let other : p ≢ i = omega arith in rw get_or-set_other (before p (omega arith))

-- one sum more is in range
pub fits_more : (multiplier : ℤ) (ys : List ℤ) (old : List Total) (i : ℕ)
    → ((p : ℕ) → p < i → (sum_with_part multiplier ys old p).size < 2 ^ 127)
    → (sum_with_part multiplier ys old i).size < 2 ^ 127
    → (p : ℕ) → p < i + 1 → (sum_with_part multiplier ys old p).size < 2 ^ 127
fits_more multiplier ys old i before fits p below = cases (below_or_here p i below)
  where
    cases : (p < i) ⊎ (p ≡ i) → (sum_with_part multiplier ys old p).size < 2 ^ 127
    cases (inl lower) = before p lower
    cases (inr here) = subst (λ q. (sum_with_part multiplier ys old q).size < 2 ^ 127) (sym here) fits
