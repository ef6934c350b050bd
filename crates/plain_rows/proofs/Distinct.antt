-- Distinct names, and the numbers that they have.
use Rattle.std.proofs.Common.{◌≡◌, ◌≢◌, ℕ, ◌+◌, ◌-◌, ◌<◌, ◌≤◌, true, List, [], ◌∷◌, ◌++◌, length, map, take, get_or, Option, None, Some, ◌⊎◌, inl, inr, arith, ap, append_assoc, subst, sym, refl, ◌∙◌}
use Rattle.std.specs.Prelude.{All, slice_get}
use Rattle.std.specs.Str.{bytes_eq}
use Rattle.std.proofs.lemmas.Cmp.{nat_list_eq_equiv}
use Rattle.std.proofs.lemmas.List.{get_or_append_left, get_or-append_right, length-append, map_more, take_more}
use Rattle.std.proofs.lemmas.List.Folds.{list_any_at}
use Rattle.std.proofs.lemmas.List.Elements.{All-more}
use Rattle.std.proofs.lemmas.List.Quantifiers.{all_pairs_push, position-Some}
use Rattle.std.proofs.lemmas.Option.{none-some, slice_get-get_or, slice_get_within, get_or_from_slice_get}
use Rattle.std.proofs.lemmas.Slice.Eq.{bytes_eq-Decides}
use Rattle.name_tables.specs.Numbering.{number_in}
use Rattle.name_tables.proofs.Places.{position_some}
use Rattle.plain_model.specs.Plain.{AreDistinct}

pub compared : (a b : ℕ) → (a ≡ b) ⊎ ((a < b) ⊎ (b < a))
compared a b = grind arith

-- one name stands at one place
pub same_place : (names : List (List ℕ)) (q place : ℕ) → AreDistinct names → q < length names → place < length names → get_or names q [] ≡ get_or names place [] → q ≡ place
same_place names q place distinct within there same = cases (compared q place)
  where
    cases : (q ≡ place) ⊎ ((q < place) ⊎ (place < q)) → q ≡ place
    cases (inl e) = e
    cases (inr (inl below)) = absurd (distinct q place [] below there same)
    cases (inr (inr above)) = absurd (distinct place q [] above within (sym same))

-- a name that has no number is none of the names
pub fresh : (names : List (List ℕ)) (name : List ℕ) → number_in names name ≡ None → All (λ other. other ≢ name) names
fresh names name none = λ k d within same.
    let passes : bytes_eq name (get_or names k d) ≡ true = ap (bytes_eq name) same ∙ nat_list_eq_equiv.refl name in
    none-some _ (sym none ∙ position_some (bytes_eq name) names (list_any_at (bytes_eq name) names k d within passes))

pub distinct_push : (names : List (List ℕ)) (name : List ℕ) → AreDistinct names → number_in names name ≡ None → AreDistinct (names ++ name ∷ [])
distinct_push names name distinct none = all_pairs_push (λ one other. one ≢ other) names name distinct (fresh names name none)

-- the name at a number that was found
pub named : (names : List (List ℕ)) (name : List ℕ) (at : ℕ) (d : List ℕ) → number_in names name ≡ Some at → (at < length names) × (get_or names at d ≡ name)
named names name at d found =
    let here = position-Some (bytes_eq name) names at d found in
    (here.0, sym ((bytes_eq-Decides name (get_or names at d)).0 here.1))

-- the number of the name at a place
pub numbered_at : (names : List (List ℕ)) (name : List ℕ) (at : ℕ) → AreDistinct names → slice_get names at ≡ Some name → number_in names name ≡ Some at
numbered_at names name at distinct there = cases (number_in names name) refl
  where
    within : at < length names
    within = slice_get_within names at name there

    same : get_or names at [] ≡ name
    same = get_or_from_slice_get names at name [] there

    cases : (found : Option ℕ) → number_in names name ≡ found → found ≡ Some at
    cases None none = absurd (fresh names name none at [] within same)
    cases (Some other) found =
        let here = named names name other [] found in
        ap Some (same_place names other at distinct here.0 within (here.1 ∙ sym same))

-- a number among the first names
pub named_first : (firsts seconds rest : List (List ℕ)) (name : List ℕ) (at : ℕ) → number_in (firsts ++ seconds ++ rest) name ≡ Some at → at < length firsts → slice_get firsts at ≡ Some name
named_first firsts seconds rest name at found within =
    let inside : at < length (firsts ++ seconds) = omega (arith, length-append firsts seconds) in
    slice_get-get_or firsts at name within
    ∙ ap Some (sym (get_or_append_left firsts seconds name at within)
    ∙ sym (get_or_append_left (firsts ++ seconds) rest name at inside)
    ∙ (named (firsts ++ seconds ++ rest) name at name found).1)

-- a number behind the first names
pub named_behind : (firsts seconds rest : List (List ℕ)) (name : List ℕ) (at : ℕ) → number_in (firsts ++ seconds ++ rest) name ≡ Some at → length firsts ≤ at → at - length firsts < length seconds → slice_get seconds (at - length firsts) ≡ Some name
named_behind firsts seconds rest name at found behind within =
    let inside : at < length (firsts ++ seconds) = omega (arith, length-append firsts seconds) in
    slice_get-get_or seconds (at - length firsts) name within
    ∙ ap Some (sym (get_or-append_right firsts seconds (length firsts) at name refl behind)
    ∙ sym (get_or_append_left (firsts ++ seconds) rest name at inside)
    ∙ (named (firsts ++ seconds ++ rest) name at name found).1)

-- one more name is numbered
pub added_more : {X : Type 0} (f : X → List ℕ) (start before after : List (List ℕ)) (xs : List X) (i : ℕ) (x : X)
    → i < length xs → x ≡ get_or xs i x → before ≡ start ++ map f (take i xs) → after ≡ before ++ f x ∷ [] → after ≡ start ++ map f (take (i + 1) xs)
added_more f start before after xs i x within is was grown =
    let more = map_more f xs i x within in
    cc (more, append_assoc start (map f (take i xs)) (f x ∷ []))

pub added_more_names : (start before after : List (List ℕ)) (xs : List (List ℕ)) (i : ℕ) (x : List ℕ)
    → i < length xs → x ≡ get_or xs i x → before ≡ start ++ take i xs → after ≡ before ++ x ∷ [] → after ≡ start ++ take (i + 1) xs
added_more_names start before after xs i x within is was grown =
    let more = take_more xs i x within in
    cc (more, append_assoc start (take i xs) (x ∷ []))

-- one more element passes
pub all_more : {X : Type 0} (P : X → Type 0) (xs : List X) (i : ℕ) (x : X) → i < length xs → x ≡ get_or xs i x → All P (take i xs) → P x → All P (take (i + 1) xs)
all_more P xs i x within is all here = All-more P xs i x within all (subst P is here)
