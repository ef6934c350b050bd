-- Laws of the total of a list of terms.
use Rattle.std.proofs.Common.{◌≡◌, ℕ, ◌+◌, ◌<◌, ◌≤◌, List, [], ◌∷◌, ◌++◌, length, get_or, take, arith, refl, ap, ◌∙◌, sym}
use Rattle.std.specs.Prelude.{ℤ, unsigned_abs, sum_by}
use Rattle.std.proofs.lemmas.Int.{ints}
use Rattle.std.proofs.lemmas.List.{take_more}
use Rattle.std.proofs.lemmas.List.Sums.{sum_by-cons, sum_by-take-le}
use Rattle.wide_sums.specs.Total.{Total, zero_total, with_term, joined, total_of}

-- two totals of one value and one size are one
pub same_total : (a b : Total) → a.value ≡ b.value → a.size ≡ b.size → a ≡ b
same_total a b values sizes =
    ap (λ (v : ℤ). let t : Total = record { value = v; size = a.size } in t) values
    ∙ ap (λ (n : ℕ). let t : Total = record { value = b.value; size = n } in t) sizes

-- a term may be added to either part
pub joined-with_term : (a b : Total) (term : ℤ) → with_term (joined a b) term ≡ joined (with_term a term) b
joined-with_term a b term = same_total _ _ (omega (arith, ints)) (omega arith)

pub zero_joined : (a : Total) → joined zero_total a ≡ a
zero_joined a = same_total _ _ (omega (arith, ints)) (omega arith)

-- the total of two lists is that of both together
pub total_of-append : (xs ys : List ℤ) → total_of (xs ++ ys) ≡ joined (total_of xs) (total_of ys)
total_of-append [] ys = sym (zero_joined (total_of ys))
total_of-append (x ∷ xs) ys = ap (λ t. with_term t x) (total_of-append xs ys) ∙ joined-with_term (total_of xs) (total_of ys) x

-- a term at the end
pub with_term-swap : (a : Total) (x y : ℤ) → with_term (with_term a x) y ≡ with_term (with_term a y) x
with_term-swap a x y = same_total _ _ (omega (arith, ints)) (omega arith)

pub total_of_push : (xs : List ℤ) (y : ℤ) → total_of (xs ++ y ∷ []) ≡ with_term (total_of xs) y
total_of_push [] y = refl
total_of_push (x ∷ xs) y = ap (λ t. with_term t x) (total_of_push xs y) ∙ with_term-swap (total_of xs) y x

-- the step of a loop that adds the terms up
pub total_of_more : (xs : List ℤ) (i : ℕ) (d : ℤ) → i < length xs → total_of (take (i + 1) xs) ≡ with_term (total_of (take i xs)) (get_or xs i d)
total_of_more xs i d within = ap total_of (take_more xs i d within) ∙ total_of_push (take i xs) (get_or xs i d)

-- the size is the sum of the absolute values, so it never falls
pub size-total_of : (xs : List ℤ) → (total_of xs).size ≡ sum_by unsigned_abs xs
size-total_of [] = refl
size-total_of (x ∷ xs) = omega (arith, size-total_of xs, sum_by-cons unsigned_abs x xs)

pub size_take-le : (xs : List ℤ) (i : ℕ) → (total_of (take i xs)).size ≤ (total_of xs).size
size_take-le xs i = omega (arith, size-total_of xs, size-total_of (take i xs), sum_by-take-le unsigned_abs xs i)

-- the absolute value is at most the size
pub abs_with_term : (a : Total) (term : ℤ) → unsigned_abs a.value ≤ a.size → unsigned_abs (with_term a term).value ≤ (with_term a term).size
abs_with_term a term within = omega (arith, ints)

pub value_within : (xs : List ℤ) → unsigned_abs (total_of xs).value ≤ (total_of xs).size
value_within [] = omega arith
value_within (x ∷ xs) = abs_with_term (total_of xs) x (value_within xs)
