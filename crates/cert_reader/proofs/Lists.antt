-- Lists with one more element at their front or their end.
use Rattle.std.proofs.Common.{◌≡◌, Bool, true, false, List, [], ◌∷◌, ◌++◌, refl, subst, ◌∙◌}
use Rattle.std.specs.List.{AllByRecursion, IsDistinct, list_any}
use Rattle.std.proofs.lemmas.Bool.{or_from, or_parts}

pub heads : {X : Type 0} (x y : X) (xs ys : List X) → x ∷ xs ≡ y ∷ ys → x ≡ y
heads x y xs ys e = cc

pub tails : {X : Type 0} (x y : X) (xs ys : List X) → x ∷ xs ≡ y ∷ ys → xs ≡ ys
tails x y xs ys e = cc

pub none_some : {X : Type 0} (y : X) (ys : List X) → [] ≡ y ∷ ys → ⊥
none_some y ys e = cc

pub some_none : {X : Type 0} (x : X) (xs : List X) → x ∷ xs ≡ [] → ⊥
some_none x xs e = cc

pub all_more : {X : Type 0} (P : X → Type 0) (xs : List X) (x : X) → AllByRecursion P xs → P x → AllByRecursion P (xs ++ x ∷ [])
all_more P [] x are is = (is, tt)
all_more P (y ∷ ys) x (first, are) is = (first, all_more P ys x are is)

pub all_less : {X : Type 0} (P : X → Type 0) (xs : List X) (x : X) → AllByRecursion P (xs ++ x ∷ []) → AllByRecursion P xs × P x
all_less P [] x (is, none) = (tt, is)
all_less P (y ∷ ys) x (first, are) = let parts = all_less P ys x are in ((first, parts.0), parts.1)

pub distinct_more : {X : Type 0} (e : X → X → Bool) → ((x y : X) → e x y ≡ e y x) → (xs : List X) (x : X) → IsDistinct e xs → list_any (e x) xs ≡ false → IsDistinct e (xs ++ x ∷ [])
unfolding IsDistinct
distinct_more e flips [] x apart fresh = (tt, tt)
distinct_more e flips (y ∷ ys) x (first, apart) fresh =
    let parts = or_parts (e x y) (list_any (e x) ys) fresh in
    (all_more (λ z. e y z ≡ false) ys x first (flips y x ∙ parts.0), distinct_more e flips ys x apart parts.1)

pub distinct_less : {X : Type 0} (e : X → X → Bool) → ((x y : X) → e x y ≡ e y x) → (xs : List X) (x : X) → IsDistinct e (xs ++ x ∷ []) → IsDistinct e xs × (list_any (e x) xs ≡ false)
unfolding IsDistinct
distinct_less e flips [] x apart = (tt, refl)
distinct_less e flips (y ∷ ys) x (first, apart) =
    let now = all_less (λ z. e y z ≡ false) ys x first in
    let later = distinct_less e flips ys x apart in
    ((now.0, later.0), or_from (e x y) (list_any (e x) ys) (flips x y ∙ now.1) later.1)
