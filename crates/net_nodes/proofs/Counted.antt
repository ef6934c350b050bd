-- How many elements of a list pass a test.
use Rattle.std.proofs.Common.{◌≡◌, ℕ, zero, suc, ◌+◌, ◌<◌, ◌≤◌, Bool, true, false, cond, List, [], ◌∷◌, length, get_or, refl, sym, arith}
use Rattle.std.proofs.lemmas.Bool.{true≢false}

abbrev pub many : {A : Type 0} → (A → Bool) → List A → ℕ
many p [] = 0
many p (x ∷ xs) = cond (p x) 1 0 + many p xs

pub many-within : {A : Type 0} (p : A → Bool) (xs : List A) → many p xs ≤ length xs
many-within p [] = omega arith
many-within p (x ∷ xs) = by (p x) (many-within p xs)
  where
    by : (here : Bool) → many p xs ≤ length xs → cond here 1 0 + many p xs ≤ length (x ∷ xs)
    by true h = omega (arith, h)
    by false h = omega (arith, h)

pub many-all : {A : Type 0} (xs : List A) → many (λ _. true) xs ≡ length xs
many-all [] = refl
many-all (x ∷ xs) = let h = many-all xs in omega (arith, h)

-- of two tests of which the second passes whatever the first does
abbrev pub Implies : {A : Type 0} → (A → Bool) → (A → Bool) → Type 0
Implies p q = (x : _) → p x ≡ true → q x ≡ true

pub many-more : {A : Type 0} (p q : A → Bool) (xs : List A) → Implies p q → many p xs ≤ many q xs
many-more p q [] more = omega arith
many-more p q (x ∷ xs) more = by (p x) (q x) (more x) (many-more p q xs more)
  where
    by : (a b : Bool) → (a ≡ true → b ≡ true) → many p xs ≤ many q xs → cond a 1 0 + many p xs ≤ cond b 1 0 + many q xs
    by true true m h = omega (arith, h)
    by true false m h = absurd (true≢false (sym (m refl)))
    by false true m h = omega (arith, h)
    by false false m h = omega (arith, h)

-- where no more pass the second, each that passes it passes the first too
pub many-same : {A : Type 0} (p q : A → Bool) (xs : List A) → Implies p q → many q xs ≤ many p xs → (k : ℕ) (d : A) → k < length xs → q (get_or xs k d) ≡ true → p (get_or xs k d) ≡ true
many-same p q [] more few k d within passes = absurd (omega (arith, within))
many-same p q (x ∷ xs) more few zero d within passes = by (p x) (q x) passes few (many-more p q xs more)
  where
    by : (a b : Bool) → b ≡ true → cond b 1 0 + many q xs ≤ cond a 1 0 + many p xs → many p xs ≤ many q xs → a ≡ true
    by true b e f h = refl
    by false true e f h = absurd (omega (arith, f, h))
    by false false e f h = absurd (true≢false (sym e))
many-same p q (x ∷ xs) more few (suc k) d within passes =
    many-same p q xs more (by (p x) (q x) (more x) few) k d (omega (arith, within)) passes
  where
    by : (a b : Bool) → (a ≡ true → b ≡ true) → cond b 1 0 + many q xs ≤ cond a 1 0 + many p xs → many q xs ≤ many p xs
    by true true m f = omega (arith, f)
    by true false m f = absurd (true≢false (sym (m refl)))
    by false true m f = omega (arith, f)
    by false false m f = omega (arith, f)
