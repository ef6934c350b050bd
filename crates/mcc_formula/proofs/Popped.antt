-- What is found in a list that is gone over from its end.
use Rattle.std.proofs.Common.{◌≡◌, Bool, true, false, cond, List, [], ◌∷◌, ◌++◌, find, Option, None, Some, refl, sym, ap, ◌∙◌}

-- what stands earlier is taken
abbrev pub earlier : {A : Type 0} → Option A → Option A → Option A
earlier None later = later
earlier (Some x) later = Some x

pub find_push : {A : Type 0} (p : A → Bool) (xs : List A) (x : A) (later : Option A)
    → earlier (find p (xs ++ x ∷ [])) later ≡ earlier (find p xs) (cond (p x) (Some x) later)
find_push p [] x later = by (p x)
  where
    by : (b : Bool) → earlier (cond b (Some x) None) later ≡ cond b (Some x) later
    by true = refl
    by false = refl
find_push p (y ∷ ys) x later = by (p y) (find_push p ys x later)
  where
    by : (b : Bool) → earlier (find p (ys ++ x ∷ [])) later ≡ earlier (find p ys) (cond (p x) (Some x) later)
        → earlier (cond b (Some y) (find p (ys ++ x ∷ []))) later ≡ earlier (cond b (Some y) (find p ys)) (cond (p x) (Some x) later)
    by true h = refl
    by false h = h

-- one element less is left
pub keeps : {A : Type 0} (p : A → Bool) (left rest : List A) (x : A) (found whole : Option A) (b : Bool) → left ≡ rest ++ x ∷ [] → p x ≡ b
    → earlier (find p left) found ≡ whole → earlier (find p rest) (cond b (Some x) found) ≡ whole
keeps p left rest x found whole b is passes known =
    ap (λ b. earlier (find p rest) (cond b (Some x) found)) (sym passes) ∙ sym (find_push p rest x found) ∙ ap (λ xs. earlier (find p xs) found) (sym is) ∙ known
