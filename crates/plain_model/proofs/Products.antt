-- Laws of products and of weighted sums over ℤ.
use Rattle.std.proofs.Common.{◌≡◌, ℕ, zero, suc, ◌+◌, Bool, true, false, ◌&&◌, List, [], ◌∷◌, ◌++◌, map, ℤ, pos, negsuc, ◌+ℤ◌, ◌-ℤ◌, ◌*ℤ◌, neg_ℤ, refl, sym, ◌∙◌, ap, arith}
use Rattle.std.specs.Prelude.{int_le}
use Rattle.std.specs.List.{list_all}
use Rattle.std.proofs.lemmas.Int.{ints}
use Rattle.std.proofs.lemmas.Bool.Decides.{nat_tests}
use Rattle.std.proofs.Math.IntN.{suc_ℤ, pred_ℤ}
use Rattle.plain_model.specs.Sums.{sum_of, products}

-- a product with a sum of counts
pub mul_counts : (y : ℤ) (a b : ℕ) → y *ℤ pos (a + b) ≡ (y *ℤ pos a) +ℤ (y *ℤ pos b)
mul_counts (pos y) a b = omega (arith, ints)
mul_counts (negsuc y) a b = omega (arith, ints)

mul_suc : (m k : ℤ) → m *ℤ suc_ℤ k ≡ (m *ℤ k) +ℤ m
mul_suc (pos a) (pos b) = omega (arith, ints)
mul_suc (pos a) (negsuc zero) = omega (arith, ints)
mul_suc (pos a) (negsuc (suc b)) = omega (arith, ints)
mul_suc (negsuc a) (pos b) = omega (arith, ints)
mul_suc (negsuc a) (negsuc zero) = omega (arith, ints)
mul_suc (negsuc a) (negsuc (suc b)) = omega (arith, ints)

mul_pred : (m k : ℤ) → m *ℤ pred_ℤ k ≡ (m *ℤ k) -ℤ m
mul_pred (pos a) (pos zero) = omega (arith, ints)
mul_pred (pos a) (pos (suc b)) = omega (arith, ints)
mul_pred (pos a) (negsuc b) = omega (arith, ints)
mul_pred (negsuc a) (pos zero) = omega (arith, ints)
mul_pred (negsuc a) (pos (suc b)) = omega (arith, ints)
mul_pred (negsuc a) (negsuc b) = omega (arith, ints)

suc_is : (k : ℤ) → suc_ℤ k ≡ k +ℤ pos 1
suc_is (pos n) = omega (arith, ints)
suc_is (negsuc zero) = omega (arith, ints)
suc_is (negsuc (suc n)) = omega (arith, ints)

pred_is : (k : ℤ) → pred_ℤ k ≡ k -ℤ pos 1
pred_is (pos zero) = omega (arith, ints)
pred_is (pos (suc n)) = omega (arith, ints)
pred_is (negsuc n) = omega (arith, ints)

up_from : (k : ℤ) (n : ℕ) → k +ℤ pos (suc n) ≡ suc_ℤ (k +ℤ pos n)
up_from k n = omega (arith, ints, suc_is (k +ℤ pos n))

down_from : (k : ℤ) (n : ℕ) → k +ℤ negsuc (suc n) ≡ pred_ℤ (k +ℤ negsuc n)
down_from k n = omega (arith, ints, pred_is (k +ℤ negsuc n))

-- a product with no count
pub mul_zero : (m : ℤ) → m *ℤ pos 0 ≡ pos 0
mul_zero (pos a) = omega (arith, ints)
mul_zero (negsuc a) = omega (arith, ints)

-- a product with a sum
pub mul_add : (m k l : ℤ) → m *ℤ (k +ℤ l) ≡ (m *ℤ k) +ℤ (m *ℤ l)
mul_add m k (pos zero) =
    let same : k +ℤ pos 0 ≡ k = omega (arith, ints) in
    let none : m *ℤ pos 0 ≡ pos 0 = mul_zero m in
    ap (λ z. m *ℤ z) same ∙ omega (arith, ints, none)
mul_add m k (pos (suc n)) =
    let whole : m *ℤ (k +ℤ pos n) ≡ (m *ℤ k) +ℤ (m *ℤ pos n) = mul_add m k (pos n) in
    let more : m *ℤ suc_ℤ (k +ℤ pos n) ≡ (m *ℤ (k +ℤ pos n)) +ℤ m = mul_suc m (k +ℤ pos n) in
    let part : m *ℤ pos (suc n) ≡ (m *ℤ pos n) +ℤ m = mul_suc m (pos n) in
    ap (λ z. m *ℤ z) (up_from k n) ∙ omega (arith, ints, whole, more, part)
mul_add m k (negsuc zero) =
    let one : k +ℤ negsuc 0 ≡ pred_ℤ k = omega (arith, ints, pred_is k) in
    let less : m *ℤ pred_ℤ k ≡ (m *ℤ k) -ℤ m = mul_pred m k in
    let part : m *ℤ negsuc 0 ≡ (m *ℤ pos 0) -ℤ m = mul_pred m (pos 0) in
    ap (λ z. m *ℤ z) one ∙ omega (arith, ints, less, part, mul_zero m)
mul_add m k (negsuc (suc n)) =
    let whole : m *ℤ (k +ℤ negsuc n) ≡ (m *ℤ k) +ℤ (m *ℤ negsuc n) = mul_add m k (negsuc n) in
    let less : m *ℤ pred_ℤ (k +ℤ negsuc n) ≡ (m *ℤ (k +ℤ negsuc n)) -ℤ m = mul_pred m (k +ℤ negsuc n) in
    let part : m *ℤ negsuc (suc n) ≡ (m *ℤ negsuc n) -ℤ m = mul_pred m (negsuc n) in
    ap (λ z. m *ℤ z) (down_from k n) ∙ omega (arith, ints, whole, less, part)

-- a sum times a count
pub add_mul : (x y : ℤ) (n : ℕ) → (x +ℤ y) *ℤ pos n ≡ (x *ℤ pos n) +ℤ (y *ℤ pos n)
add_mul x y zero = mul_zero (x +ℤ y) ∙ omega (arith, ints, mul_zero x, mul_zero y)
add_mul x y (suc n) =
    let rest : (x +ℤ y) *ℤ pos n ≡ (x *ℤ pos n) +ℤ (y *ℤ pos n) = add_mul x y n in
    let both : (x +ℤ y) *ℤ pos (suc n) ≡ ((x +ℤ y) *ℤ pos n) +ℤ (x +ℤ y) = mul_suc (x +ℤ y) (pos n) in
    let first : x *ℤ pos (suc n) ≡ (x *ℤ pos n) +ℤ x = mul_suc x (pos n) in
    let second : y *ℤ pos (suc n) ≡ (y *ℤ pos n) +ℤ y = mul_suc y (pos n) in
    omega (arith, ints, rest, both, first, second)

-- a product times a count
pub mul_mul : (v c : ℤ) (n : ℕ) → (v *ℤ c) *ℤ pos n ≡ v *ℤ (c *ℤ pos n)
mul_mul v c zero = mul_zero (v *ℤ c) ∙ sym (ap (λ z. v *ℤ z) (mul_zero c) ∙ mul_zero v)
mul_mul v c (suc n) =
    let rest : (v *ℤ c) *ℤ pos n ≡ v *ℤ (c *ℤ pos n) = mul_mul v c n in
    let left : (v *ℤ c) *ℤ pos (suc n) ≡ ((v *ℤ c) *ℤ pos n) +ℤ (v *ℤ c) = mul_suc (v *ℤ c) (pos n) in
    let right : v *ℤ ((c *ℤ pos n) +ℤ c) ≡ (v *ℤ (c *ℤ pos n)) +ℤ (v *ℤ c) = mul_add v (c *ℤ pos n) c in
    omega (arith, ints, rest, left, right) ∙ sym (ap (λ z. v *ℤ z) (mul_suc c (pos n)))

pub sum_of-append : (xs ys : List ℤ) → sum_of (xs ++ ys) ≡ sum_of xs +ℤ sum_of ys
sum_of-append [] ys = omega (arith, ints)
sum_of-append (x ∷ xs) ys = omega (arith, ints, sum_of-append xs ys)

neg_add : (x y : ℤ) → neg_ℤ (x +ℤ y) ≡ neg_ℤ x +ℤ neg_ℤ y
neg_add x y = omega (arith, ints)

pub sum_of-neg : (xs : List ℤ) → sum_of (map neg_ℤ xs) ≡ neg_ℤ (sum_of xs)
sum_of-neg [] = refl
sum_of-neg (x ∷ xs) = ap (λ z. z +ℤ neg_ℤ x) (sum_of-neg xs) ∙ sym (neg_add (sum_of xs) x)

-- a number that isn't positive, times a count
not_above : (z : ℤ) (n : ℕ) → int_le z (pos 0) ≡ true → int_le (z *ℤ pos n) (pos 0) ≡ true
not_above (pos zero) n h = grind (arith, ints, nat_tests)
not_above (pos (suc k)) n h = grind (arith, ints, nat_tests)
not_above (negsuc k) zero h = grind (arith, ints, nat_tests)
not_above (negsuc k) (suc n) h = grind (arith, ints, nat_tests)

add_not_above : (x y : ℤ) → int_le x (pos 0) ≡ true → int_le y (pos 0) ≡ true → int_le (x +ℤ y) (pos 0) ≡ true
add_not_above x y p q = grind (arith, ints)

false_is_not_true : false ≡ true → ⊥
false_is_not_true h = cc

pub and_split : (x y : Bool) → (x && y) ≡ true → (x ≡ true) × (y ≡ true)
and_split true y h = (refl, h)
and_split false y h = absurd (false_is_not_true h)

-- where no coefficient is positive, the weighted sum isn't
pub products-not_above : (ys : List ℤ) (ns : List ℕ) → list_all (λ y. int_le y (pos 0)) ys ≡ true → int_le (sum_of (products ys ns)) (pos 0) ≡ true
products-not_above [] ns h = refl
products-not_above (y ∷ ys) [] h = refl
products-not_above (y ∷ ys) (n ∷ ns) h =
    let parts = and_split (int_le y (pos 0)) (list_all (λ z. int_le z (pos 0)) ys) h in
    add_not_above (sum_of (products ys ns)) (y *ℤ pos n) (products-not_above ys ns parts.1) (not_above y n parts.0)

-- coefficients that are all 0
pub products-zero : {X : Type 0} (xs : List X) (ns : List ℕ) → sum_of (products (map (λ x. pos 0) xs) ns) ≡ pos 0
products-zero [] ns = refl
products-zero (x ∷ xs) [] = refl
products-zero (x ∷ xs) (n ∷ ns) =
    let none : pos 0 *ℤ pos n ≡ pos 0 = omega (arith, ints) in
    omega (arith, ints, none, products-zero xs ns)
