-- Elements of lists: of appended lists, of those that pass a test, and of lists of values that are all there.
use Rattle.std.proofs.Common.{◌≡◌, ℕ, zero, suc, ◌+◌, ◌<◌, ◌≤◌, ◌⊎◌, inl, inr, Bool, true, false, cond, List, [], ◌∷◌, ◌++◌, map, filter, length, get_or, refl, sym, ap, subst, ◌∙◌, arith, Some, None, Ok, Err}
use Rattle.std.specs.Prelude.{Option, Result, slice_get}
use Rattle.std.specs.Option.{unwrap_or}
use Rattle.std.specs.Result.{result_unwrap_or}
use Rattle.net_firing.specs.Unfolding.{all_ok, in_front}

pub same_some : {A : Type 0} (x y : A) → Some x ≡ Some y → x ≡ y
same_some x y e = ap (λ o. unwrap_or o x) e

pub same_ok : {A E : Type 0} (x y : A) → ◌≡◌ {A = Result A E} (Ok x) (Ok y) → x ≡ y
same_ok x y e = ap (λ o. result_unwrap_or o x) e

pub get-left : {A : Type 0} (xs ys : List A) (i : ℕ) (x : A) → slice_get xs i ≡ Some x → slice_get (xs ++ ys) i ≡ Some x
get-left [] ys i x e = cc
get-left (y ∷ xs) ys zero x e = e
get-left (y ∷ xs) ys (suc i) x e = get-left xs ys i x e

pub get-right : {A : Type 0} (xs ys : List A) (j i : ℕ) → i ≡ length xs + j → slice_get (xs ++ ys) i ≡ slice_get ys j
get-right [] ys j i e = ap (slice_get ys) (let same : i ≡ j = omega (arith, e) in same)
get-right (x ∷ xs) ys j zero e = absurd (omega (arith, e))
get-right (x ∷ xs) ys j (suc i) e = get-right xs ys j i (omega (arith, e))

-- past the end of a list of numbers
pub get_past : (xs : List ℕ) (i : ℕ) → length xs ≤ i → get_or xs i 0 ≡ 0
get_past [] i high = refl
get_past (x ∷ xs) zero high = absurd (omega (arith, high))
get_past (x ∷ xs) (suc i) high = get_past xs i (omega (arith, high))

-- an element of two appended lists is one of the first or of the second
pub record IsLeft {A : Type 0} (xs : List A) (i : ℕ) (x : A) : Type 0 where
  pub there : slice_get xs i ≡ Some x

pub record IsRight {A : Type 0} (xs ys : List A) (i : ℕ) (x : A) : Type 0 where
  pub at : ℕ
  pub place : i ≡ length xs + at
  pub there : slice_get ys at ≡ Some x

pub get-append : {A : Type 0} (xs ys : List A) (i : ℕ) (x : A) → slice_get (xs ++ ys) i ≡ Some x → IsLeft xs i x ⊎ IsRight xs ys i x
get-append [] ys i x e = inr (record { at = i; place = omega arith; there = e })
get-append (y ∷ xs) ys zero x e = inl (record { there = e })
get-append (y ∷ xs) ys (suc i) x e = elim (get-append xs ys i x e) [
  | inl left ↦ inl (record { there = left.there })
  | inr right ↦ inr (record { at = right.at; place = (let is = right.place in omega (arith, is)); there = right.there })
]

-- an element that a filter keeps, and one that passes
pub record IsKept {A : Type 0} (p : A → Bool) (xs : List A) (x : A) : Type 0 where
  pub at : ℕ
  pub there : slice_get xs at ≡ Some x
  pub passes : p x ≡ true

kept_by : {A : Type 0} (p : A → Bool) (b : Bool) (y : A) (xs : List A) (i : ℕ) (x : A) → p y ≡ b → ((j : ℕ) → slice_get (filter p xs) j ≡ Some x → IsKept p xs x)
    → slice_get (cond b (y ∷ filter p xs) (filter p xs)) i ≡ Some x → IsKept p (y ∷ xs) x
kept_by p true y xs zero x is behind e = record { at = 0; there = e; passes = subst (λ z. p z ≡ true) (same_some y x e) is }
kept_by p true y xs (suc i) x is behind e = let rest = behind i e in record { at = suc rest.at; there = rest.there; passes = rest.passes }
kept_by p false y xs i x is behind e = let rest = behind i e in record { at = suc rest.at; there = rest.there; passes = rest.passes }

pub kept : {A : Type 0} (p : A → Bool) (xs : List A) (i : ℕ) (x : A) → slice_get (filter p xs) i ≡ Some x → IsKept p xs x
kept p [] i x e = absurd (none i e)
  where
    none : {A : Type 0} {x : A} (i : ℕ) → slice_get [] i ≡ Some x → ⊥
    none i e = cc
kept p (y ∷ xs) i x e = kept_by p (p y) y xs i x refl (λ j f. kept p xs j x f) e

pub record Stands {A : Type 0} (xs : List A) (x : A) : Type 0 where
  pub at : ℕ
  pub there : slice_get xs at ≡ Some x

behind_one : {A : Type 0} (b : Bool) (y : A) (xs : List A) (x : A) → Stands xs x → Stands (cond b (y ∷ xs) xs) x
behind_one true y xs x s = record { at = suc s.at; there = s.there }
behind_one false y xs x s = s

pub keeps : {A : Type 0} (p : A → Bool) (xs : List A) (i : ℕ) (x : A) → slice_get xs i ≡ Some x → p x ≡ true → Stands (filter p xs) x
keeps p [] i x e passes = absurd (none i e)
  where
    none : {A : Type 0} {x : A} (i : ℕ) → slice_get [] i ≡ Some x → ⊥
    none i e = cc
keeps p (y ∷ xs) zero x e passes =
    let same = same_some y x e in
    subst (λ b. Stands (cond b (y ∷ filter p xs) (filter p xs)) x) (sym (ap p same ∙ passes)) (record { at = 0; there = e })
keeps p (y ∷ xs) (suc i) x e passes = behind_one (p y) y (filter p xs) x (keeps p xs i x e passes)

-- the values of a list, one for each
abbrev pub AreValues : {A B E : Type 0} → (A → Result B E) → List A → List B → Type 0
AreValues f [] [] = Unit {0}
AreValues f (x ∷ xs) (y ∷ ys) = (f x ≡ Ok y) × AreValues f xs ys
AreValues f _ _ = ⊥

pub record IsFront {B E : Type 0} (first : Result B E) (rest : Result (List B) E) (all : List B) : Type 0 where
  pub head : B
  pub others : List B
  pub is : head ∷ others ≡ all
  pub first_is : first ≡ Ok head
  pub rest_is : rest ≡ Ok others

front : {B E : Type 0} (first : Result B E) (rest : List (Result B E)) (all : List B) → all_ok (first ∷ rest) ≡ Ok all → IsFront first (all_ok rest) all
front (Err fault) rest all e = absurd (no fault all e)
  where
    no : {B E : Type 0} (fault : E) (all : List B) → ◌≡◌ {A = Result (List B) E} (Err fault) (Ok all) → ⊥
    no fault all e = cc
front (Ok x) rest all e = behind x (all_ok rest) all e
  where
    behind : {B E : Type 0} (x : B) (rest : Result (List B) E) (all : List B) → in_front x rest ≡ Ok all → IsFront {B = B} {E = E} (Ok x) rest all
    behind x (Ok xs) all e = record { head = x; others = xs; is = same_ok (x ∷ xs) all e; first_is = refl; rest_is = refl }
    behind x (Err fault) all e = absurd (no fault all e)
      where
        no : {B E : Type 0} (fault : E) (all : List B) → ◌≡◌ {A = Result (List B) E} (Err fault) (Ok all) → ⊥
        no fault all e = cc

pub values : {A B E : Type 0} (f : A → Result B E) (xs : List A) (ys : List B) → all_ok (map f xs) ≡ Ok ys → AreValues f xs ys
values f [] ys e = subst (AreValues f []) (same_ok [] ys e) tt
values f (x ∷ xs) ys e =
    let parts = front (f x) (map f xs) ys e in
    subst (AreValues f (x ∷ xs)) parts.is (parts.first_is, values f xs parts.others parts.rest_is)

-- the value at a place is that of the element there
pub record HasSource {A B E : Type 0} (f : A → Result B E) (xs : List A) (i : ℕ) (y : B) : Type 0 where
  pub source : A
  pub there : slice_get xs i ≡ Some source
  pub value : f source ≡ Ok y

pub source_of : {A B E : Type 0} (f : A → Result B E) (xs : List A) (ys : List B) (i : ℕ) (y : B) → AreValues f xs ys → slice_get ys i ≡ Some y → HasSource f xs i y
source_of f [] [] i y known e = absurd (none i e)
  where
    none : {A : Type 0} {x : A} (i : ℕ) → slice_get [] i ≡ Some x → ⊥
    none i e = cc
source_of f [] (z ∷ ys) i y known e = absurd known
source_of f (x ∷ xs) [] i y known e = absurd known
source_of f (x ∷ xs) (z ∷ ys) zero y known e = record { source = x; there = refl; value = known.0 ∙ ap Ok (same_some z y e) }
source_of f (x ∷ xs) (z ∷ ys) (suc i) y known e =
    let rest = source_of f xs ys i y known.1 e in
    record { source = rest.source; there = rest.there; value = rest.value }

pub record HasValue {A B E : Type 0} (f : A → Result B E) (ys : List B) (i : ℕ) (x : A) : Type 0 where
  pub made : B
  pub there : slice_get ys i ≡ Some made
  pub value : f x ≡ Ok made

pub value_of : {A B E : Type 0} (f : A → Result B E) (xs : List A) (ys : List B) (i : ℕ) (x : A) → AreValues f xs ys → slice_get xs i ≡ Some x → HasValue f ys i x
value_of f [] ys i x known e = absurd (none i e)
  where
    none : {A : Type 0} {x : A} (i : ℕ) → slice_get [] i ≡ Some x → ⊥
    none i e = cc
value_of f (z ∷ xs) [] i x known e = absurd known
value_of f (z ∷ xs) (y ∷ ys) zero x known e = record { made = y; there = refl; value = ap f (sym (same_some z x e)) ∙ known.0 }
value_of f (z ∷ xs) (y ∷ ys) (suc i) x known e =
    let rest = value_of f xs ys i x known.1 e in
    record { made = rest.made; there = rest.there; value = rest.value }
