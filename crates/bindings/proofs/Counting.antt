-- Products within a range.
use Rattle.std.proofs.Common.{◌≡◌, ℕ, zero, suc, ◌+◌, ◌*◌, ◌<◌, ◌≤◌, ◌⊎◌, inl, inr, List, drop, get_or, length, sym, ap, ◌∙◌, arith, min}
use Rattle.std.proofs.Math.Nat.{le-mul_of_pos_right, mul_assoc, mul-zero}
use Rattle.std.proofs.lemmas.Bool.{cases_lt}
use Rattle.std.proofs.lemmas.List.{drop_more}
use Rattle.bindings.specs.Listed.{product}

-- what is past the range stays past it, or there is nothing
min-product : (a b most : ℕ) → min (min a most * b) most ≡ min (a * b) most
min-product a b most = decide (cases_lt most a)
  where
    one-below : (b : ℕ) → 0 < suc b
    one-below b = omega arith

    past : (b : ℕ) → most < a → min (most * b) most ≡ min (a * b) most
    past zero over = ap (λ n. min n most) (mul-zero most ∙ sym (mul-zero a))
    past (suc b) over =
        let low = le-mul_of_pos_right most (one-below b) in
        let high = le-mul_of_pos_right a (one-below b) in
        omega (arith, over, low, high)

    decide : (most < a) ⊎ (a ≤ most) → min (min a most * b) most ≡ min (a * b) most
    decide (inl over) = (let e : min a most ≡ most = omega (arith, over) in ap (λ n. min (n * b) most) e) ∙ past b over
    decide (inr under) = let e : min a most ≡ a = omega (arith, under) in ap (λ n. min (n * b) most) e

-- one size more
pub counted-more : (sizes : List ℕ) (at count counted most : ℕ) → at < length sizes → counted ≡ min (count * get_or sizes at 0) most
    → min (count * product (drop at sizes)) most ≡ min (product sizes) most → min (counted * product (drop (at + 1) sizes)) most ≡ min (product sizes) most
counted-more sizes at count counted most within more known =
    let size = get_or sizes at 0 in
    let rests = product (drop (at + 1) sizes) in
    ap (λ n. min (n * rests) most) more
    ∙ min-product (count * size) rests most
    ∙ ap (λ n. min n most) (mul_assoc count size rests ∙ ap (λ xs. count * product xs) (sym (drop_more sizes at 0 within)))
    ∙ known
