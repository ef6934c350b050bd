-- Sorts by their numbers.
use Rattle.std.proofs.Common.{◌≡◌, ℕ, zero, suc, ◌<◌, ◌⊎◌, inl, inr, List, [], ◌∷◌, ◌++◌, map, length, length-append, length-set, replicate, set, get_or, refl, sym, ap, ◌∙◌, arith, subst, Some, None, Option}
use Rattle.std.proofs.lemmas.List.{get_or-map, get_or-set_other, get_or-set_same, map-set}
use Rattle.std.proofs.lemmas.List.Elements.{All-head, All-tail}
use Rattle.std.proofs.lemmas.Option.{get_or_from_slice_get}
use Rattle.std.specs.List.{slice_get}
use Rattle.std.specs.Prelude.{All}
use Rattle.colour_sorts.specs.declared.sorts.Sort.{Sort}
use Rattle.colour_sorts.specs.Held.{IsNumber, sort_numbered}
use Rattle.colour_sorts.proofs.Has.{equal-or-not, get-front, get-last}
use Rattle.colour_sorts.proofs.PlacesIn.{get-at}

number-later : (sorts : List Sort) (s : Sort) (number : Option ℕ) → IsNumber sorts number → IsNumber (sorts ++ s ∷ []) number
number-later sorts s None h = tt
number-later sorts s (Some n) h = omega (arith, h, length-append sorts (s ∷ []))

numbers-later : (sorts : List Sort) (s : Sort) (numbers : List (Option ℕ)) → All (IsNumber sorts) numbers → All (IsNumber (sorts ++ s ∷ [])) numbers
numbers-later sorts s numbers all = λ k d within. number-later sorts s (get_or numbers k d) (all k d within)

pub numbers-set : (sorts : List Sort) (numbers : List (Option ℕ)) (at : ℕ) (n : Option ℕ) → IsNumber sorts n → All (IsNumber sorts) numbers → All (IsNumber sorts) (set numbers at n)
numbers-set sorts numbers at n one all = λ k d within. by k d (omega (arith, within, length-set numbers at n)) (equal-or-not k at)
  where
    by : (k : ℕ) (d : Option ℕ) → k < length numbers → ((k ≡ at) ⊎ (k ≡ at → ⊥)) → IsNumber sorts (get_or (set numbers at n) k d)
    by k d within (inl same) = subst (IsNumber sorts) (sym (ap (λ j. get_or (set numbers at n) j d) same ∙ get_or-set_same numbers at n d (omega (arith, within, same)))) one
    by k d within (inr other) = subst (IsNumber sorts) (sym (get_or-set_other numbers at k n d other)) (all k d within)

one-same : (sorts : List Sort) (s : Sort) (number : Option ℕ) → IsNumber sorts number → sort_numbered (sorts ++ s ∷ []) number ≡ sort_numbered sorts number
one-same sorts s None h = refl
one-same sorts s (Some n) h = by (slice_get sorts n) refl
  where
    by : (o : Option Sort) → slice_get sorts n ≡ o → slice_get (sorts ++ s ∷ []) n ≡ slice_get sorts n
    by None e = absurd (past sorts n h e)
      where
        past : (xs : List Sort) (k : ℕ) → k < length xs → slice_get xs k ≡ None → ⊥
        past [] k less e = omega (arith, less)
        past (x ∷ xs) zero less e = grind (arith, e)
        past (x ∷ xs) (suc k) less e = past xs k (omega (arith, less)) e
    by (Some x) e = get-front sorts (s ∷ []) n x e ∙ sym e

all-same : (sorts : List Sort) (s : Sort) (numbers : List (Option ℕ)) → All (IsNumber sorts) numbers → map (sort_numbered (sorts ++ s ∷ [])) numbers ≡ map (sort_numbered sorts) numbers
all-same sorts s [] h = refl
all-same sorts s (n ∷ ns) h =
    ap (λ o. o ∷ map (sort_numbered (sorts ++ s ∷ [])) ns) (one-same sorts s n (All-head (IsNumber sorts) n ns h))
    ∙ ap (λ os. sort_numbered sorts n ∷ os) (all-same sorts s ns (All-tail (IsNumber sorts) n ns h))

-- one sort more
pub put-sorts : (sorts : List Sort) (numbers : List (Option ℕ)) (at : ℕ) (s : Sort) → All (IsNumber sorts) numbers
    → map (sort_numbered (sorts ++ s ∷ [])) (set numbers at (Some (length sorts))) ≡ set (map (sort_numbered sorts) numbers) at (Some s)
put-sorts sorts numbers at s all =
    map-set (sort_numbered (sorts ++ s ∷ [])) numbers at (Some (length sorts))
    ∙ ap (λ o. set (map (sort_numbered (sorts ++ s ∷ [])) numbers) at o) (get-last sorts s)
    ∙ ap (λ os. set os at (Some s)) (all-same sorts s numbers all)

pub put-numbers : (sorts : List Sort) (numbers : List (Option ℕ)) (at : ℕ) (s : Sort) → All (IsNumber sorts) numbers → All (IsNumber (sorts ++ s ∷ [])) (set numbers at (Some (length sorts)))
put-numbers sorts numbers at s all = numbers-set (sorts ++ s ∷ []) numbers at (Some (length sorts)) (omega (arith, length-append sorts (s ∷ []))) (numbers-later sorts s numbers all)

-- the sort of another one
pub share-sorts : (sorts : List Sort) (numbers : List (Option ℕ)) (at other : ℕ) (n : Option ℕ) (s : Sort) → n ≡ get_or numbers other None → other < length numbers
    → slice_get (map (sort_numbered sorts) numbers) other ≡ Some (Some s) → map (sort_numbered sorts) (set numbers at n) ≡ set (map (sort_numbered sorts) numbers) at (Some s)
share-sorts sorts numbers at other n s is within e =
    map-set (sort_numbered sorts) numbers at n
    ∙ ap (set (map (sort_numbered sorts) numbers) at)
    (ap (sort_numbered sorts) is ∙ sym (get_or-map (sort_numbered sorts) numbers other None None within) ∙ get_or_from_slice_get (map (sort_numbered sorts) numbers) other (Some s) None e)

pub no-sorts : (n : ℕ) → map (sort_numbered []) (replicate n None) ≡ replicate n None
no-sorts zero = refl
no-sorts (suc n) = ap (λ os. None ∷ os) (no-sorts n)
