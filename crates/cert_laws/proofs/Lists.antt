-- Lists of numbers below a bound, and tests and sums over them.
use Rattle.std.proofs.Common.{◌≡◌, ℕ, ◌<◌, Bool, true, false, ◌&&◌, ◌||◌, not, cond, List, [], ◌∷◌, map, filter, length, get_or, ℤ, ◌+ℤ◌, arith, refl, sym, ◌∙◌, ap}
use Rattle.std.specs.List.{list_all, list_any, range_with_len}
use Rattle.std.proofs.lemmas.Int.{ints}
use Rattle.std.proofs.lemmas.List.{length-map, get_or-map, ext_get_or}
use Rattle.std.proofs.lemmas.List.FromFn.{length-map-range_with_len, get_or-map-range_with_len}
use Rattle.reductions.specs.Numbers.{numbers}
use Rattle.reductions.proofs.Numbers.{numbered}
use Rattle.cert_model.specs.Sums.{sum_of}

-- what is read at the numbers below the length of a list is the list, mapped
pub map-read : {X : Type 0} (f g : ℕ → X) (ks : List ℕ) (n : ℕ) (d : X) → n ≡ length ks → ((q : ℕ) → q < n → f q ≡ g (get_or ks q 0)) → map f (range_with_len 0 n) ≡ map g ks
map-read f g ks n d long each =
    let left = length-map-range_with_len f 0 n in
    let right = length-map ks g in
    ext_get_or d (map f (range_with_len 0 n)) (map g ks) (omega arith) (λ q within.
    let low : q < n = omega arith in
    get_or-map-range_with_len f 0 n q q d low (omega arith) ∙ each q low ∙ sym (get_or-map g ks q 0 d (omega arith)))

-- what is equal at each number that passes
pub map-numbers : {X : Type 0} (f g : ℕ → X) (n : ℕ) (test : ℕ → Bool) (d : X) → ((p : ℕ) → p < n → test p ≡ true → f p ≡ g p) → map f (numbers n test) ≡ map g (numbers n test)
map-numbers f g n test d each =
    let left = length-map (numbers n test) f in
    let right = length-map (numbers n test) g in
    ext_get_or d (map f (numbers n test)) (map g (numbers n test)) (omega arith) (λ q within.
    let low : q < length (numbers n test) = omega arith in
    let at = numbered n test q low in
    get_or-map f (numbers n test) q 0 d low ∙ each (get_or (numbers n test) q 0) at.below at.passes ∙ sym (get_or-map g (numbers n test) q 0 d low))

pub map-range : {X : Type 0} (f g : ℕ → X) (n : ℕ) (d : X) → ((p : ℕ) → p < n → f p ≡ g p) → map f (range_with_len 0 n) ≡ map g (range_with_len 0 n)
map-range f g n d each =
    let left = length-map-range_with_len f 0 n in
    let right = length-map-range_with_len g 0 n in
    ext_get_or d (map f (range_with_len 0 n)) (map g (range_with_len 0 n)) (omega arith) (λ q within.
    let low : q < n = omega arith in
    get_or-map-range_with_len f 0 n q q d low (omega arith) ∙ each q low ∙ sym (get_or-map-range_with_len g 0 n q q d low (omega arith)))

-- tests over lists
pub list_any-map : {X Y : Type 0} (p : Y → Bool) (f : X → Y) (xs : List X) → list_any p (map f xs) ≡ list_any (λ x. p (f x)) xs
list_any-map p f [] = refl
list_any-map p f (x ∷ xs) = ap (λ b. p (f x) || b) (list_any-map p f xs)

any_more : {X : Type 0} (b : Bool) (p : X → Bool) (x : X) (xs : List X) → list_any p (cond b (x ∷ xs) xs) ≡ (b && p x || list_any p xs)
any_more true p x xs = refl
any_more false p x xs = refl

pub list_any-filter : {X : Type 0} (p test : X → Bool) (xs : List X) → list_any p (filter test xs) ≡ list_any (λ x. test x && p x) xs
list_any-filter p test [] = refl
list_any-filter p test (x ∷ xs) = any_more (test x) p x (filter test xs) ∙ ap (λ b. test x && p x || b) (list_any-filter p test xs)

all_more : {X : Type 0} (b : Bool) (p : X → Bool) (x : X) (xs : List X) → list_all p (cond b (x ∷ xs) xs) ≡ (cond b (p x) true && list_all p xs)
all_more true p x xs = refl
all_more false p x xs = refl

pub list_all-filter : {X : Type 0} (p test : X → Bool) (xs : List X) → list_all p (filter test xs) ≡ list_all (λ x. cond (test x) (p x) true) xs
list_all-filter p test [] = refl
list_all-filter p test (x ∷ xs) = all_more (test x) p x (filter test xs) ∙ ap (λ b. cond (test x) (p x) true && b) (list_all-filter p test xs)

pub any-range : (f g : ℕ → Bool) (n : ℕ) → ((i : ℕ) → i < n → f i ≡ g i) → list_any f (range_with_len 0 n) ≡ list_any g (range_with_len 0 n)
any-range f g n each =
    sym (list_any-map (λ b. b) f (range_with_len 0 n)) ∙ ap (list_any (λ b. b)) (map-range f g n false each) ∙ list_any-map (λ b. b) g (range_with_len 0 n)

pub any-numbers : (p : ℕ → Bool) (n : ℕ) (test : ℕ → Bool) → list_any p (numbers n test) ≡ list_any (λ i. test i && p i) (range_with_len 0 n)
unfolding numbers
any-numbers p n test = list_any-filter p test (range_with_len 0 n)

pub all-numbers : (p : ℕ → Bool) (n : ℕ) (test : ℕ → Bool) → list_all p (numbers n test) ≡ list_all (λ i. cond (test i) (p i) true) (range_with_len 0 n)
unfolding numbers
all-numbers p n test = list_all-filter p test (range_with_len 0 n)

-- a sum over a list is that over what passes a test and over the rest
sum_more : (b : Bool) (g : ℕ → ℤ) (x : ℕ) (ys zs xs : List ℕ) → sum_of (map g xs) ≡ sum_of (map g ys) +ℤ sum_of (map g zs)
    → sum_of (map g (x ∷ xs)) ≡ sum_of (map g (cond b (x ∷ ys) ys)) +ℤ sum_of (map g (cond (not b) (x ∷ zs) zs))
sum_more true g x ys zs xs rest = omega (arith, ints, rest)
sum_more false g x ys zs xs rest = omega (arith, ints, rest)

sum-split : (g : ℕ → ℤ) (test : ℕ → Bool) (xs : List ℕ) → sum_of (map g xs) ≡ sum_of (map g (filter test xs)) +ℤ sum_of (map g (filter (λ x. not (test x)) xs))
sum-split g test [] = omega (arith, ints)
sum-split g test (x ∷ xs) = sum_more (test x) g x (filter test xs) (filter (λ y. not (test y)) xs) xs (sum-split g test xs)

pub sum-numbers : (g : ℕ → ℤ) (n : ℕ) (test : ℕ → Bool) → sum_of (map g (range_with_len 0 n)) ≡ sum_of (map g (numbers n test)) +ℤ sum_of (map g (numbers n (λ p. not (test p))))
unfolding numbers
sum-numbers g n test = sum-split g test (range_with_len 0 n)
