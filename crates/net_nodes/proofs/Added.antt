-- Names that are added to others from which they differ.
use Rattle.std.proofs.Common.{◌≡◌, ℕ, ◌+◌, ◌<◌, List, [], ◌∷◌, ◌++◌, map, take, drop, length, get_or, refl, sym, ap, subst, ◌∙◌, append_assoc, false, ◌||◌}
use Rattle.std.proofs.lemmas.List.{map-append, map_more, take-append-drop}
use Rattle.std.proofs.lemmas.Cmp.{nat_list_eq_equiv}
use Rattle.std.proofs.lemmas.Option.{none-some}
use Rattle.std.specs.List.{AllByRecursion, IsDistinct, list_any}
use Rattle.std.specs.Str.{bytes_eq}
use Rattle.name_tables.proofs.Places.{position_none}
use Rattle.name_tables.specs.Numbering.{IsAdded, number_in}
use Rattle.name_tables.specs.declared.numbering.Added.{Added}
use Rattle.name_tables.specs.declared.numbering.Added.TheVariants.{New, Old}

all-front : {A : Type 0} (P : A → Type 0) (xs ys : List A) → AllByRecursion P (xs ++ ys) → AllByRecursion P xs
all-front P [] ys all = tt
all-front P (x ∷ xs) ys all = (all.0, all-front P xs ys all.1)

-- the first of distinct names are distinct
pub distinct-front : (xs ys : List (List ℕ)) → IsDistinct bytes_eq (xs ++ ys) → IsDistinct bytes_eq xs
unfolding IsDistinct
distinct-front [] ys distinct = tt
distinct-front (x ∷ xs) ys distinct = (all-front (λ y. bytes_eq x y ≡ false) xs ys distinct.0, distinct-front xs ys distinct.1)

-- the names of the first elements, and of the next one, are the first of all names
pub distinct-next : {X : Type 0} (f : X → List ℕ) (before : List (List ℕ)) (xs : List X) (i : ℕ) (d : X) → i < length xs → IsDistinct bytes_eq (before ++ map f xs)
    → IsDistinct bytes_eq ((before ++ map f (take i xs)) ++ f (get_or xs i d) ∷ [])
distinct-next f before xs i d within distinct =
    distinct-front ((before ++ map f (take i xs)) ++ f (get_or xs i d) ∷ []) (map f (drop (i + 1) xs)) (subst (IsDistinct bytes_eq) (sym joined) distinct)
  where
    joined : ((before ++ map f (take i xs)) ++ f (get_or xs i d) ∷ []) ++ map f (drop (i + 1) xs) ≡ before ++ map f xs
    joined =
        ap (λ front. front ++ map f (drop (i + 1) xs)) (append_assoc before (map f (take i xs)) (f (get_or xs i d) ∷ []) ∙ ap (λ m. before ++ m) (sym (map_more f xs i d within)))
        ∙ append_assoc before (map f (take (i + 1) xs)) (map f (drop (i + 1) xs))
        ∙ ap (λ m. before ++ m) (sym (map-append f (take (i + 1) xs) (drop (i + 1) xs)) ∙ ap (map f) (take-append-drop (i + 1) xs))

all-last : {A : Type 0} (P : A → Type 0) (xs : List A) (x : A) → AllByRecursion P (xs ++ x ∷ []) → P x
all-last P [] x all = all.0
all-last P (y ∷ xs) x all = all-last P xs x all.1

-- the last of distinct names isn't among the others
not-before : (xs : List (List ℕ)) (x : List ℕ) → IsDistinct bytes_eq (xs ++ x ∷ []) → list_any (bytes_eq x) xs ≡ false
unfolding IsDistinct
not-before [] x distinct = refl
not-before (y ∷ xs) x distinct =
    ap (λ z. z || list_any (bytes_eq x) xs) (nat_list_eq_equiv.symm x y ∙ all-last (λ z. bytes_eq y z ≡ false) xs x distinct.0)
    ∙ not-before xs x distinct.1

-- so it is added as a new one
pub added : (old : List (List ℕ)) (name copy : List ℕ) (answer : Added) (new : List (List ℕ)) → IsDistinct bytes_eq (old ++ name ∷ []) → copy ≡ name → IsAdded old copy answer new → new ≡ old ++ name ∷ []
added old name copy (New at) new distinct same is = is.2 ∙ ap (λ x. old ++ x ∷ []) same
added old name copy (Old at) new distinct same is = absurd (none-some at (sym (position_none (bytes_eq name) old (not-before old name distinct)) ∙ ap (number_in old) (sym same) ∙ is.0))
