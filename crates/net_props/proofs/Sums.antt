-- Sums of products of counts.
use Rattle.std.proofs.Common.{◌≡◌, ℕ, ◌+◌, ◌*◌, ◌<◌, List, [], ◌∷◌, map, length, get_or, pos, ◌+ℤ◌, ◌*ℤ◌, neg_ℤ, sum_by, arith, refl, ap, sym, ◌∙◌}
use Rattle.std.specs.List.{range_with_len}
use Rattle.std.proofs.lemmas.Int.{ints}
use Rattle.std.proofs.lemmas.List.{length-map, get_or-map, ext_get_or}
use Rattle.std.proofs.lemmas.List.FromFn.{length-map-range_with_len, get_or-map-range_with_len}
use Rattle.std.proofs.lemmas.List.Sums.{sum_by-cons}
use Rattle.reductions.proofs.Nets.{sum_by-map}
use Rattle.cert_model.specs.Sums.{sum_of, products}
use Rattle.cert_model.proofs.Weights.{add_mul}

-- what is added of functions that are the same
pub same_sum : {X : Type 0} (f g : X → ℕ) (xs : List X) → ((x : X) → f x ≡ g x) → sum_by f xs ≡ sum_by g xs
same_sum f g [] same = refl
same_sum f g (x ∷ xs) same = omega (arith, sum_by-cons f x xs, sum_by-cons g x xs, same x, same_sum f g xs same)

pub no_sum : {X : Type 0} (f : X → ℕ) (xs : List X) → ((x : X) → f x ≡ 0) → sum_by f xs ≡ 0
no_sum f [] none = refl
no_sum f (x ∷ xs) none = omega (arith, sum_by-cons f x xs, none x, no_sum f xs none)

pub sum_both : {X : Type 0} (f g h : X → ℕ) (xs : List X) → ((x : X) → h x ≡ f x + g x) → sum_by h xs ≡ sum_by f xs + sum_by g xs
sum_both f g h [] both = refl
sum_both f g h (x ∷ xs) both = omega (arith, sum_by-cons f x xs, sum_by-cons g x xs, sum_by-cons h x xs, both x, sum_both f g h xs both)

-- a sum over the numbers of a list's elements is one over the elements
pub sum_read : {X : Type 0} (f : ℕ → ℕ) (g : X → ℕ) (es : List X) (n : ℕ) (d : X) → n ≡ length es → ((q : ℕ) → q < n → f q ≡ g (get_or es q d)) → sum_by f (range_with_len 0 n) ≡ sum_by g es
sum_read f g es n d long each =
    let left = length-map-range_with_len f 0 n in
    let right = length-map es g in
    let same : map f (range_with_len 0 n) ≡ map g es =
    ext_get_or 0 (map f (range_with_len 0 n)) (map g es) (omega arith) (λ q within.
    let low : q < n = omega arith in
    get_or-map-range_with_len f 0 n q q 0 low (omega arith) ∙ each q low ∙ sym (get_or-map g es q d 0 (omega arith))) in
    sym (sum_by-map (λ (k : ℕ). k) f (range_with_len 0 n)) ∙ ap (sum_by (λ (k : ℕ). k)) same ∙ sum_by-map (λ (k : ℕ). k) g es

-- differences of counts as coefficients
neg_counts : (a n : ℕ) → neg_ℤ (pos a) *ℤ pos n ≡ neg_ℤ (pos (a * n))
neg_counts a n =
    let both : (pos a +ℤ neg_ℤ (pos a)) *ℤ pos n ≡ (pos a *ℤ pos n) +ℤ (neg_ℤ (pos a) *ℤ pos n) = add_mul (pos a) (neg_ℤ (pos a)) n in
    let none : pos a +ℤ neg_ℤ (pos a) ≡ pos 0 = omega (arith, ints) in
    let zeros : pos 0 *ℤ pos n ≡ pos 0 = omega (arith, ints) in
    let left : (pos a +ℤ neg_ℤ (pos a)) *ℤ pos n ≡ pos 0 = ap (λ z. z *ℤ pos n) none ∙ zeros in
    let product : pos a *ℤ pos n ≡ pos (a * n) = refl in
    omega (arith, ints, both, left, product)

pub sum_difference : (xs : List ℕ) (v w m : ℕ → ℕ)
    → sum_of (products xs (λ q. pos (v q) +ℤ neg_ℤ (pos (w q))) m) ≡ pos (sum_by (λ q. v q * m q) xs) +ℤ neg_ℤ (pos (sum_by (λ q. w q * m q) xs))
sum_difference [] v w m = omega (arith, ints)
sum_difference (x ∷ xs) v w m =
    let rest = sum_difference xs v w m in
    let one : (pos (v x) +ℤ neg_ℤ (pos (w x))) *ℤ pos (m x) ≡ (pos (v x) *ℤ pos (m x)) +ℤ (neg_ℤ (pos (w x)) *ℤ pos (m x)) = add_mul (pos (v x)) (neg_ℤ (pos (w x))) (m x) in
    let first : pos (v x) *ℤ pos (m x) ≡ pos (v x * m x) = refl in
    let second = neg_counts (w x) (m x) in
    let left = sum_by-cons (λ q. v q * m q) x xs in
    let right = sum_by-cons (λ q. w q * m q) x xs in
    omega (arith, ints, rest, one, first, second, left, right)
