-- What holds of each element of a list.
use Rattle.std.proofs.Common.{◌≡◌, ℕ, zero, suc, Bool, true, false, cond, List, [], ◌∷◌, ◌++◌, map, filter, Option, None, Some, refl, ◌∙◌}
use Rattle.std.proofs.lemmas.Bool.{and_from, and_parts}
use Rattle.std.proofs.lemmas.List.Folds.{list_all-append, list_all-map}
use Rattle.std.specs.Bool.{⊤}
use Rattle.std.specs.List.{find, list_all}
use Rattle.std.specs.Prelude.{slice_index_or}
use Rattle.pnml_read.specs.Each.{Each, are_all}

-- from what holds already
pub each_map : {A : Type 0} (P Q : A → Type 0) → ((x : A) → P x → Q x) → (xs : List A) → Each P xs → Each Q xs
each_map P Q f [] h = tt
each_map P Q f (x ∷ xs) h = (f x h.0, each_map P Q f xs h.1)

pub each_of : {A : Type 0} (P : A → Type 0) → ((x : A) → P x) → (xs : List A) → Each P xs
each_of P all [] = tt
each_of P all (x ∷ xs) = (all x, each_of P all xs)

pub each_known : {A : Type 0} (P : A → Type 0) (ys : List ((x : A) × P x)) → Each P (map (λ y. y.0) ys)
each_known P [] = tt
each_known P (y ∷ ys) = (y.1, each_known P ys)

pub each_over : {A B : Type 0} (P : B → Type 0) (f : A → B) (xs : List A) → Each (λ x. P (f x)) xs → Each P (map f xs)
each_over P f [] h = tt
each_over P f (x ∷ xs) h = (h.0, each_over P f xs h.1)

pub each_append : {A : Type 0} (P : A → Type 0) (xs ys : List A) → Each P xs → Each P ys → Each P (xs ++ ys)
each_append P [] ys h k = k
each_append P (x ∷ xs) ys h k = (h.0, each_append P xs ys h.1 k)

pub each_at : {A : Type 0} (P : A → Type 0) (xs : List A) (i : ℕ) (otherwise : A) → Each P xs → P otherwise → P (slice_index_or xs i otherwise)
each_at P [] i otherwise h k = k
each_at P (x ∷ xs) zero otherwise h k = h.0
each_at P (x ∷ xs) (suc i) otherwise h k = each_at P xs i otherwise h.1 k

-- from tests, and tests from it
pub each_true : {A : Type 0} (p : A → Bool) (xs : List A) → list_all p xs ≡ true → Each (λ x. p x ≡ true) xs
each_true p [] h = tt
each_true p (x ∷ xs) h = let parts = and_parts (p x) (list_all p xs) h in (parts.0, each_true p xs parts.1)

pub each_passes : {A : Type 0} (p : A → Bool) (Q : A → Type 0) → ((x : A) → p x ≡ true → Q x) → (xs : List A) → list_all p xs ≡ true → Each Q xs
each_passes p Q f xs h = each_map (λ x. p x ≡ true) Q f xs (each_true p xs h)

pub all_each : {A : Type 0} (p : A → Bool) (xs : List A) → Each (λ x. p x ≡ true) xs → list_all p xs ≡ true
all_each p [] h = refl
all_each p (x ∷ xs) h = and_from (p x) (list_all p xs) h.0 (all_each p xs h.1)

pub all_map : {A B : Type 0} (p : B → Bool) (f : A → B) (xs : List A) → Each (λ x. p (f x) ≡ true) xs → list_all p (map f xs) ≡ true
all_map p f xs h = list_all-map p f xs ∙ all_each (λ x. p (f x)) xs h

pub all_maps : {A B : Type 0} (p : B → Bool) (f : A → B) (xs : List A) → Each (λ x. p (f x) ≡ true) xs → are_all (map p (map f xs)) ≡ true
all_maps p f xs h = list_all-map (λ b. b) p (map f xs) ∙ all_map p f xs h

pub all_both : {A : Type 0} (p : A → Bool) (xs ys : List A) → list_all p xs ≡ true → list_all p ys ≡ true → list_all p (xs ++ ys) ≡ true
all_both p xs ys h k = list_all-append p xs ys ∙ and_from (list_all p xs) (list_all p ys) h k

-- what is found, if anything
abbrev pub OfSome : {A : Type 0} → Option A → (A → Type 0) → Type 0
OfSome None P = ⊤
OfSome (Some x) P = P x

pub found_has : {A : Type 0} (test : A → Bool) (P : A → Type 0) (xs : List A) → Each P xs → OfSome (find test xs) (λ x. P x × (test x ≡ true))
found_has test P [] h = tt
found_has test P (x ∷ xs) h = by (test x) refl (find test xs) (found_has test P xs h.1)
  where
    by : (b : Bool) → test x ≡ b → (o : Option _) → OfSome o (λ x. P x × (test x ≡ true)) → OfSome (cond b (Some x) o) (λ x. P x × (test x ≡ true))
    by true is o later = (h.0, is)
    by false is o later = later

-- what is kept of a list
pub filter_has : {A : Type 0} (p : A → Bool) (P : A → Type 0) (xs : List A) → Each P xs → Each (λ x. P x × (p x ≡ true)) (filter p xs)
filter_has p P [] h = tt
filter_has p P (x ∷ xs) h = by (p x) refl (filter p xs) (filter_has p P xs h.1)
  where
    by : (b : Bool) → p x ≡ b → (ys : List _) → Each (λ x. P x × (p x ≡ true)) ys → Each (λ x. P x × (p x ≡ true)) (cond b (x ∷ ys) ys)
    by true is ys later = ((h.0, is), later)
    by false is ys later = later
