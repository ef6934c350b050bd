-- Sums that are none once they are out of range.
use Rattle.std.proofs.Common.{◌≡◌, ℕ, zero, suc, ◌+◌, ◌^◌, ◌<◌, Bool, true, false, cond, List, [], ◌∷◌, map, drop, length, get_or, ℤ, pos, refl, sym, ◌∙◌, ap, arith, nat_le, Some, None}
use Rattle.std.specs.Prelude.{unsigned_abs, Option, int_le, ◌||◌}
use Rattle.std.specs.List.{list_any}
use native.Mathlib.Numerals.{unary_clauses}
use Rattle.std.proofs.lemmas.Int.{ints}
use Rattle.std.proofs.lemmas.Bool.Decides.{nat_tests}
use Rattle.wide_sums.specs.Total.{Total, zero_total, with_term, joined, total_of}
use Rattle.wide_sums.proofs.Totals.{same_total, zero_joined}
use Rattle.cert_model.specs.declared.Check.TheVariants as check
use Rattle.cert_model.specs.Sums.{is_wide, judged, sum_of}
use Rattle.linear_cert.specs.Fitting.{fitting, plus, plus_all, not_negative}

fitting-of : (t : Total) (wide : Bool) → nat_le (2 ^ 127) t.size ≡ wide → fitting t ≡ cond wide None (Some t)
fitting-of t wide is = ap (λ b. cond b None (Some t)) is

larger_is_wide : (n m : ℕ) → nat_le (2 ^ 127) n ≡ true → nat_le (2 ^ 127) (n + m) ≡ true
larger_is_wide n m h = grind (arith, nat_tests)

-- a term more than what is in range so far
pub plus-fitting : (t : Total) (term : ℤ) → plus (fitting t) term ≡ fitting (with_term t term)
plus-fitting t term = cases (nat_le (2 ^ 127) t.size) refl
  where
    cases : (wide : Bool) → nat_le (2 ^ 127) t.size ≡ wide → plus (fitting t) term ≡ fitting (with_term t term)
    cases true is = ap (λ s. plus s term) (fitting-of t true is) ∙ sym (fitting-of (with_term t term) true (larger_is_wide t.size (unsigned_abs term) is))
    cases false is = ap (λ s. plus s term) (fitting-of t false is)

with_term-joined : (a b : Total) (term : ℤ) → joined (with_term a term) b ≡ joined a (with_term b term)
with_term-joined a b term = same_total (joined (with_term a term) b) (joined a (with_term b term)) (omega (arith, ints)) (omega arith)

pub joined_zero : (a : Total) → joined a zero_total ≡ a
joined_zero a = same_total (joined a zero_total) a (omega (arith, ints)) (omega arith)

pub plus_all-fitting : (t : Total) (terms : List ℤ) → plus_all (fitting t) terms ≡ fitting (joined t (total_of terms))
plus_all-fitting t [] = ap fitting (sym (joined_zero t))
plus_all-fitting t (x ∷ xs) =
    ap (λ s. plus_all s xs) (plus-fitting t x)
    ∙ plus_all-fitting (with_term t x) xs
    ∙ ap fitting (with_term-joined t (total_of xs) x)

-- the step of a loop that adds the terms of a list
pub plus_all-more : {X : Type 0} (term : X → ℤ) (sum : Option Total) (xs : List X) (i : ℕ) (d : X) → i < length xs
    → plus_all (plus sum (term (get_or xs i d))) (map term (drop (i + 1) xs)) ≡ plus_all sum (map term (drop i xs))
plus_all-more term sum [] i d within = absurd (omega arith)
plus_all-more term sum (x ∷ xs) zero d within = refl
plus_all-more term sum (x ∷ xs) (suc i) d within = simp unary_clauses (simp unary_clauses at (plus_all-more term sum xs i d (omega arith)))

-- what is known where the total isn't in range, and where it is
pub none_is_wide : (t : Total) → fitting t ≡ None → nat_le (2 ^ 127) t.size ≡ true
none_is_wide t none = cases (nat_le (2 ^ 127) t.size) refl
  where
    cases : (wide : Bool) → nat_le (2 ^ 127) t.size ≡ wide → wide ≡ true
    cases true is = refl
    cases false is = absurd (let is_some = sym (fitting-of t false is) ∙ none in cc)

pub some_is_narrow : (t s : Total) → fitting t ≡ Some s → (nat_le (2 ^ 127) t.size ≡ false) × (s ≡ t)
some_is_narrow t s some = cases (nat_le (2 ^ 127) t.size) refl
  where
    same : (a b : Total) → Some a ≡ Some b → b ≡ a
    same a b h = cc

    cases : (wide : Bool) → nat_le (2 ^ 127) t.size ≡ wide → (wide ≡ false) × (s ≡ t)
    cases true is = absurd (let is_none = sym (fitting-of t true is) ∙ some in cc)
    cases false is = (refl, same t s (sym (fitting-of t false is) ∙ some))

-- an obligation by what its sums come to
pub judged_by : (sums : List (List ℤ)) (holds wide is : Bool) → list_any is_wide sums ≡ wide → holds ≡ is → judged true sums holds ≡ cond wide check.Wide (cond is check.True check.False)
judged_by sums holds wide is sums_are holds_is = ap (λ b. cond b check.Wide (cond holds check.True check.False)) sums_are ∙ ap (λ b. cond wide check.Wide (cond b check.True check.False)) holds_is

-- an obligation of one sum that asks for its sign
pub not_negative_is : (sums : List (List ℤ)) (holds : Bool) (t : Total) → list_any is_wide sums ≡ nat_le (2 ^ 127) t.size → holds ≡ int_le (pos 0) t.value
    → judged true sums holds ≡ not_negative (fitting t)
not_negative_is sums holds t wide is =
    ap (λ b. cond b check.Wide (cond holds check.True check.False)) wide
    ∙ ap (λ b. cond (nat_le (2 ^ 127) t.size) check.Wide (cond b check.True check.False)) is
    ∙ cases (nat_le (2 ^ 127) t.size) refl
  where
    cases : (wide : Bool) → nat_le (2 ^ 127) t.size ≡ wide → cond wide check.Wide (cond (int_le (pos 0) t.value) check.True check.False) ≡ not_negative (fitting t)
    cases true is = ap not_negative (sym (fitting-of t true is))
    cases false is = ap not_negative (sym (fitting-of t false is))

-- two lists that are added one after the other
pub plus_all-both : (xs ys : List ℤ) → plus_all (plus_all (Some zero_total) xs) ys ≡ fitting (joined (total_of xs) (total_of ys))
plus_all-both xs ys =
    ap (λ s. plus_all s ys) (plus_all-fitting zero_total xs ∙ ap fitting (zero_joined (total_of xs)))
    ∙ plus_all-fitting (total_of xs) ys

pub plus_all-one : (xs : List ℤ) (x : ℤ) → plus (plus_all (Some zero_total) xs) x ≡ fitting (with_term (total_of xs) x)
plus_all-one xs x =
    ap (λ s. plus s x) (plus_all-fitting zero_total xs ∙ ap fitting (zero_joined (total_of xs)))
    ∙ plus-fitting (total_of xs) x

-- a constant in range, and what it is
pub narrow_size : (v : ℤ) → unsigned_abs v < 2 ^ 127 → is_wide (v ∷ []) ≡ false
narrow_size v narrow = narrow_is (unsigned_abs v) narrow
  where
    narrow_is : (n : ℕ) → n < 2 ^ 127 → nat_le (2 ^ 127) (0 + n) ≡ false
    narrow_is n h = grind (arith, nat_tests)

pub single : (v : ℤ) → sum_of (v ∷ []) ≡ v
single v = omega (arith, ints)

pub second_of : (a b : Bool) → a ≡ false → (a || (b || false)) ≡ b
second_of a true h = rw h refl
second_of a false h = rw h refl
