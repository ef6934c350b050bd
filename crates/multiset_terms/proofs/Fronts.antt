-- Rows of tuples, one component behind another.
use Rattle.std.proofs.Common.{◌≡◌, ◌≢◌, ℕ, ◌+◌, ◌-◌, ◌*◌, ◌/◌, ◌%◌, ◌<◌, ◌≤◌, inl, inr, List, [], ◌∷◌, ◌++◌, length, take, get_or, refl, ap, sym, ◌∙◌, arith}
use Rattle.std.proofs.Math.Nat.{mul-add, add-mul, mul-le-mul_right, mul-add-mod_self_right, mod-eq_of_lt, mod-add-div, mul_comm}
use Rattle.std.proofs.lemmas.Bool.{cases_eq}
use Rattle.std.proofs.lemmas.Bool.Decides.{nat_tests}
use Rattle.std.proofs.lemmas.Nat.{div-mul-add}
use Rattle.std.proofs.lemmas.List.{take_more}
use Rattle.std.proofs.lemmas.List.Sums.{sum_by_push}
use Rattle.wide_sums.specs.declared.rows.Cell.{Cell}
use Rattle.wide_sums.specs.Cells.{amount, count_at}
use Rattle.wide_sums.proofs.Amounts.{count_at-same, count_at-other}
use Rattle.multiset_terms.specs.Rows.{total}
use Rattle.multiset_terms.specs.Trees.{is_between, once}

between-last : (from n : ℕ) → from ≤ n → once (is_between from (n + 1) n) ≡ 1
between-last from n h = grind (arith, nat_tests)

between-end : (from n : ℕ) → once (is_between from n n) ≡ 0
between-end from n = grind (arith, nat_tests)

between-more : (from n q : ℕ) → q ≢ n → once (is_between from n q) ≡ once (is_between from (n + 1) q)
between-more from n q h = grind (arith, nat_tests)

parts-of : (at size choice : ℕ) → choice < size → ((at * size + choice) / size ≡ at) × ((at * size + choice) % size ≡ choice)
parts-of at size choice h = (div-mul-add at size choice h, mul-add-mod_self_right at size choice ∙ mod-eq_of_lt h)

zero-times : (x y : ℕ) → 0 * x + 0 ≡ 0 * y
zero-times x y = omega arith

-- the choices so far, and one more
pub extend-step : (p size choice from : ℕ) (front : Cell) → choice < size → from ≤ choice
    → count_at (p / size) front * once (is_between from choice (p % size)) + count_at p (record { at = front.at * size + choice; count = front.count })
    ≡ count_at (p / size) front * once (is_between from (choice + 1) (p % size))
extend-step p size choice from front within order =
    let cell : Cell = record { at = front.at * size + choice; count = front.count } in
    elim (cases_eq (front.at * size + choice) p) [
      | inl here ↦
          let both = parts-of front.at size choice within in
          let quotient : p / size ≡ front.at = ap (λ n. n / size) (sym here) ∙ both.0 in
          let remainder : p % size ≡ choice = ap (λ n. n % size) (sym here) ∙ both.1 in
          let own = count_at-same p cell here in
          let one = between-last from choice order in
          let none = between-end from choice in
          rw (quotient, remainder, own, one, none) (omega (arith, count_at-same front.at front refl))
      | inr away ↦
          let other = count_at-other p cell away in
          elim (cases_eq (p % size) choice) [
            | inl last ↦
                let apart : front.at ≢ p / size = λ same. away (rw (same, ← last) (ap (λ n. n + p % size) (mul_comm (p / size) size) ∙ omega (arith, mod-add-div p size))) in
                let nothing = count_at-other (p / size) front apart in
                rw (other, nothing) (zero-times (once (is_between from choice (p % size))) (once (is_between from (choice + 1) (p % size))))
            | inr before ↦
                let same = between-more from choice (p % size) before in
                rw (other, same) (omega arith)
          ]
    ]

total-more : (old count n from : ℕ) → from ≤ n → (old + count * (n - from)) + count ≡ old + count * (n + 1 - from)
total-more old count n from h =
    let split : n + 1 - from ≡ (n - from) + 1 = omega arith in
    rw (split, mul-add) (omega arith)

pub total-step : (row : List Cell) (c : Cell) (old n from : ℕ) → from ≤ n → total row ≡ old + c.count * (n - from) → total (row ++ c ∷ []) ≡ old + c.count * (n + 1 - from)
total-step row c old n from h known = sum_by_push (λ d. d.count) row c ∙ ap (λ x. x + c.count) known ∙ total-more old c.count n from h

-- the fronts so far, and one more
pub fronts-amount : (p q i : ℕ) (fronts : List Cell) (d : Cell) (factor : ℕ) → i < length fronts
    → amount q (take i fronts) * factor + count_at q (get_or fronts i d) * factor ≡ amount q (take (i + 1) fronts) * factor
fronts-amount p q i fronts d factor within =
    sym (add-mul (amount q (take i fronts)) (count_at q (get_or fronts i d)) factor)
    ∙ ap (λ x. x * factor) (sym (ap (amount q) (take_more fronts i d within) ∙ sum_by_push (count_at q) (take i fronts) (get_or fronts i d)))

pub fronts-total : (i : ℕ) (fronts : List Cell) (d : Cell) (factor : ℕ) → i < length fronts
    → total (take i fronts) * factor + (get_or fronts i d).count * factor ≡ total (take (i + 1) fronts) * factor
fronts-total i fronts d factor within =
    sym (add-mul (total (take i fronts)) (get_or fronts i d).count factor)
    ∙ ap (λ x. x * factor) (sym (ap total (take_more fronts i d within) ∙ sum_by_push (λ c. c.count) (take i fronts) (get_or fronts i d)))

pub room-below : (at size lead : ℕ) → at < lead → at * size + size ≤ lead * size
room-below at size lead h = let less : (at + 1) * size ≤ lead * size = mul-le-mul_right size (omega arith) in omega arith
