-- The terms of a sparse row add up to those of its list of counts.
use Rattle.std.proofs.Common.{◌≡◌, ℕ, zero, suc, ◌+◌, ◌<◌, Bool, true, false, cond, List, [], ◌∷◌, ◌++◌, map, ℤ, pos, negsuc, ◌+ℤ◌, ◌*ℤ◌, neg_ℤ, refl, sym, ◌∙◌, ap, arith, length, get_or, nat_eq, All}
use Rattle.std.specs.Prelude.{unsigned_abs}
use Rattle.std.specs.List.{range_with_len, AllByRecursion}
use Rattle.std.proofs.lemmas.Int.{ints}
use Rattle.std.proofs.lemmas.Bool.Decides.{nat_tests}
use Rattle.std.proofs.lemmas.List.Sums.{sum_by-cons}
use Rattle.std.proofs.lemmas.List.Elements.{recursion_from_All}
use Rattle.wide_sums.specs.Total.{Total, zero_total, with_term, joined, total_of}
use Rattle.wide_sums.specs.Cells.{count_at, amount}
use Rattle.wide_sums.proofs.Totals.{same_total, with_term-swap, total_of-append}
use Rattle.wide_sums.specs.declared.rows.Cell.{Cell}
use Rattle.pt_net.specs.Markings.{counts_of}
use Rattle.plain_model.specs.Sums.{products}
use Rattle.plain_model.proofs.Products.{mul_counts}
use Rattle.plain_judge.specs.Cells.{signed, cell_term, cell_terms, row_terms}

size_split : (is_taken : Bool) (y : ℤ) (more count : ℕ)
    → unsigned_abs (signed is_taken (y *ℤ pos (more + count))) ≡ unsigned_abs (signed is_taken (y *ℤ pos count)) + unsigned_abs (signed is_taken (y *ℤ pos more))
size_split true (pos y) more count = omega (arith, ints)
size_split true (negsuc y) more count = omega (arith, ints)
size_split false (pos y) more count = omega (arith, ints)
size_split false (negsuc y) more count = omega (arith, ints)

value_split : (is_taken : Bool) (y : ℤ) (more count : ℕ)
    → signed is_taken (y *ℤ pos (more + count)) ≡ signed is_taken (y *ℤ pos count) +ℤ signed is_taken (y *ℤ pos more)
value_split true y more count = omega (arith, ints, mul_counts y more count)
value_split false y more count = omega (arith, ints, mul_counts y more count)

-- a term for two counts is the terms of both
term_split : (rest : Total) (is_taken : Bool) (y : ℤ) (more count : ℕ)
    → with_term rest (signed is_taken (y *ℤ pos (more + count))) ≡ with_term (with_term rest (signed is_taken (y *ℤ pos count))) (signed is_taken (y *ℤ pos more))
term_split rest is_taken y more count =
    same_total (with_term rest (signed is_taken (y *ℤ pos (more + count)))) (with_term (with_term rest (signed is_taken (y *ℤ pos count))) (signed is_taken (y *ℤ pos more)))
    (omega (arith, ints, value_split is_taken y more count)) (omega (arith, size_split is_taken y more count))

no_term : (rest : Total) (is_taken : Bool) (y : ℤ) → with_term rest (signed is_taken (y *ℤ pos 0)) ≡ rest
no_term rest is_taken y =
    let none : signed is_taken (y *ℤ pos 0) ≡ pos 0 = nothing is_taken y in
    ap (with_term rest) none ∙ same_total (with_term rest (pos 0)) rest (omega (arith, ints)) (omega arith)
  where
    nothing : (is_taken : Bool) (y : ℤ) → signed is_taken (y *ℤ pos 0) ≡ pos 0
    nothing true (pos y) = omega (arith, ints)
    nothing true (negsuc y) = omega (arith, ints)
    nothing false (pos y) = omega (arith, ints)
    nothing false (negsuc y) = omega (arith, ints)

-- the total over the places from `first` on, with a count for each
abbrev dense_total : Bool → ℕ → List ℤ → (ℕ → ℕ) → Total
dense_total is_taken first ys counts = total_of (map (signed is_taken) (products ys (map counts (range_with_len first (length ys)))))

dense_total-none : (is_taken : Bool) (first : ℕ) (ys : List ℤ) → dense_total is_taken first ys (λ p. 0) ≡ zero_total
dense_total-none is_taken first [] = refl
dense_total-none is_taken first (y ∷ ys) =
    ap (λ t. with_term t (signed is_taken (y *ℤ pos 0))) (dense_total-none is_taken (first + 1) ys) ∙ no_term zero_total is_taken y

abbrev with_count : ℕ → ℕ → (ℕ → ℕ) → ℕ → ℕ
with_count at count counts p = cond (nat_eq at p) count 0 + counts p

apart_is_false : (a b : ℕ) → a < b → nat_eq a b ≡ false
apart_is_false a b h = grind (arith, nat_tests)

same_is_true : (a b : ℕ) → a ≡ b → nat_eq a b ≡ true
same_is_true a b h = grind (arith, nat_tests)

above_is_false : (a b : ℕ) → b < a → nat_eq a b ≡ false
above_is_false a b h = grind (arith, nat_tests)

-- a count at an earlier place isn't met
dense_total-before : (is_taken : Bool) (first : ℕ) (ys : List ℤ) (counts : ℕ → ℕ) (at count : ℕ) → at < first
    → dense_total is_taken first ys (with_count at count counts) ≡ dense_total is_taken first ys counts
dense_total-before is_taken first [] counts at count below = refl
dense_total-before is_taken first (y ∷ ys) counts at count below =
    let same : with_count at count counts first ≡ counts first = ap (λ b. cond b count 0 + counts first) (apart_is_false at first below) ∙ (omega arith) in
    ap (λ n. with_term (dense_total is_taken (first + 1) ys (with_count at count counts)) (signed is_taken (y *ℤ pos n))) same
    ∙ ap (λ t. with_term t (signed is_taken (y *ℤ pos (counts first)))) (dense_total-before is_taken (first + 1) ys counts at count (omega arith))

-- a count more at one place is a term more
dense_total-count : (is_taken : Bool) (first : ℕ) (ys : List ℤ) (counts : ℕ → ℕ) (offset count : ℕ) → offset < length ys
    → dense_total is_taken first ys (with_count (first + offset) count counts)
    ≡ with_term (dense_total is_taken first ys counts) (signed is_taken (get_or ys offset (pos 0) *ℤ pos count))
dense_total-count is_taken first [] counts offset count within = absurd (omega arith)
dense_total-count is_taken first (y ∷ ys) counts zero count within =
    let here : with_count (first + 0) count counts first ≡ count + counts first = ap (λ b. cond b count 0 + counts first) (same_is_true (first + 0) first (omega arith)) in
    ap (λ n. with_term (dense_total is_taken (first + 1) ys (with_count (first + 0) count counts)) (signed is_taken (y *ℤ pos n))) here
    ∙ ap (λ t. with_term t (signed is_taken (y *ℤ pos (count + counts first)))) (dense_total-before is_taken (first + 1) ys counts (first + 0) count (omega arith))
    ∙ term_split (dense_total is_taken (first + 1) ys counts) is_taken y count (counts first)
dense_total-count is_taken first (y ∷ ys) counts (suc offset) count within =
    let here : with_count (first + suc offset) count counts first ≡ counts first = ap (λ b. cond b count 0 + counts first) (above_is_false (first + suc offset) first (omega arith)) ∙ (omega arith) in
    let place : first + suc offset ≡ (first + 1) + offset = omega arith in
    ap (λ n. with_term (dense_total is_taken (first + 1) ys (with_count (first + suc offset) count counts)) (signed is_taken (y *ℤ pos n))) here
    ∙ ap (λ at. with_term (dense_total is_taken (first + 1) ys (with_count at count counts)) (signed is_taken (y *ℤ pos (counts first)))) place
    ∙ ap (λ t. with_term t (signed is_taken (y *ℤ pos (counts first)))) (dense_total-count is_taken (first + 1) ys counts offset count (omega arith))
    ∙ with_term-swap (dense_total is_taken (first + 1) ys counts) (signed is_taken (get_or ys offset (pos 0) *ℤ pos count)) (signed is_taken (y *ℤ pos (counts first)))

same_counts : (is_taken : Bool) (first : ℕ) (ys : List ℤ) (one other : ℕ → ℕ) → ((p : ℕ) → one p ≡ other p) → dense_total is_taken first ys one ≡ dense_total is_taken first ys other
same_counts is_taken first [] one other same = refl
same_counts is_taken first (y ∷ ys) one other same =
    ap (λ n. with_term (dense_total is_taken (first + 1) ys one) (signed is_taken (y *ℤ pos n))) (same first)
    ∙ ap (λ t. with_term t (signed is_taken (y *ℤ pos (other first)))) (same_counts is_taken (first + 1) ys one other same)

sparse_is_dense : (is_taken : Bool) (ys : List ℤ) (cells : List Cell) → AllByRecursion (λ c. c.at < length ys) cells
    → total_of (cell_terms is_taken ys cells) ≡ dense_total is_taken 0 ys (λ p. amount p cells)
sparse_is_dense is_taken ys [] within = sym (dense_total-none is_taken 0 ys)
sparse_is_dense is_taken ys (c ∷ cells) within =
    ap (λ t. with_term t (cell_term is_taken ys c)) (sparse_is_dense is_taken ys cells within.1)
    ∙ sym (dense_total-count is_taken 0 ys (λ p. amount p cells) c.at c.count within.0)
    ∙ same_counts is_taken 0 ys (with_count (0 + c.at) c.count (λ p. amount p cells)) (λ p. amount p (c ∷ cells)) (λ p. ap (λ at. cond (nat_eq at p) c.count 0 + amount p cells) (zero_add c.at) ∙ sym (sum_by-cons (count_at p) c cells))
  where
    zero_add : (n : ℕ) → 0 + n ≡ n
    zero_add n = omega arith

signed_false : (terms : List ℤ) → map (signed false) terms ≡ terms
signed_false [] = refl
signed_false (x ∷ xs) = ap (λ ys. x ∷ ys) (signed_false xs)

-- a step over sparse rows is that over their lists of counts
pub cells_check-dense : (ys : List ℤ) (taken put : List Cell) → All (λ c. c.at < length ys) taken → All (λ c. c.at < length ys) put
    → total_of (row_terms ys taken put) ≡ total_of (products ys (counts_of (length ys) put) ++ map neg_ℤ (products ys (counts_of (length ys) taken)))
cells_check-dense ys taken put taken_within put_within =
    total_of-append (cell_terms false ys put) (cell_terms true ys taken)
    ∙ ap (λ t. joined t (total_of (cell_terms true ys taken))) (sparse_is_dense false ys put (recursion_from_All _ put put_within) ∙ ap total_of (signed_false (products ys (counts_of (length ys) put))))
    ∙ ap (joined (total_of (products ys (counts_of (length ys) put)))) (sparse_is_dense true ys taken (recursion_from_All _ taken taken_within))
    ∙ sym (total_of-append (products ys (counts_of (length ys) put)) (map neg_ℤ (products ys (counts_of (length ys) taken))))
