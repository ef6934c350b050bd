-- Names that differ from each other, and names in groups with one group more.
use Rattle.std.proofs.Common.{◌≡◌, ℕ, ◌+◌, ◌<◌, List, [], ◌∷◌, ◌++◌, map, take, length, get_or, refl, sym, ap, ◌∙◌, subst, None}
use Rattle.std.proofs.lemmas.Cmp.{nat_list_eq_equiv}
use Rattle.std.proofs.lemmas.List.{map-append, take_more}
use Rattle.std.proofs.lemmas.Map.Keys.{IsDistinct-push}
use Rattle.std.proofs.lemmas.Option.{none-some}
use Rattle.std.specs.List.{IsDistinct}
use Rattle.std.specs.Str.{bytes_eq}
use Rattle.name_tables.proofs.Places.{position_some}
use Rattle.name_tables.specs.Numbering.{number_in}
use Rattle.net_model.specs.Ids.{names_in}
use Rattle.colour_sorts.proofs.Grouped.{joined-more, not-true}

-- distinct names, and a new one behind them
pub apart-more : (names : List (List ℕ)) (name : List ℕ) → IsDistinct bytes_eq names → number_in names name ≡ None → IsDistinct bytes_eq (names ++ name ∷ [])
apart-more names name distinct none =
    IsDistinct-push nat_list_eq_equiv names name distinct (not-true _ (λ e. none-some _ (sym none ∙ position_some (bytes_eq name) names e)))

-- no names are distinct
pub none-apart : IsDistinct bytes_eq []
unfolding IsDistinct
none-apart = tt

-- the names of some groups, and those of the next one
pub more-names : {X : Type 0} (f : X → List (List ℕ)) (xs : List X) (i : ℕ) (x : X) → i < length xs → x ≡ get_or xs i x → names_in (map f (take i xs)) ++ f x ≡ names_in (map f (take (i + 1) xs))
more-names f xs i x within is =
    joined-more (names_in (map f (take i xs))) (f x) (map f (take i xs)) refl
    ∙ ap names_in (sym (map-append f (take i xs) (x ∷ [])) ∙ ap (map f) (ap (λ y. take i xs ++ y ∷ []) is ∙ sym (take_more xs i x within)))

-- the next of distinct names is new among those before it
pub apart-next : (names : List (List ℕ)) (i : ℕ) (name copy : List ℕ) (ids ids2 : List (List ℕ)) → i < length names → name ≡ get_or names i name → copy ≡ name → ids ≡ take i names
    → IsDistinct bytes_eq ids → number_in ids copy ≡ None → ids2 ≡ ids ++ copy ∷ [] → (ids2 ≡ take (i + 1) names) × IsDistinct bytes_eq ids2
apart-next names i name copy ids ids2 within is same front distinct new e = (
  e ∙ ap (λ x. ids ++ x ∷ []) same ∙ ap (λ xs. xs ++ name ∷ []) front ∙ ap (λ y. take i names ++ y ∷ []) is ∙ sym (take_more names i name within),
  subst (IsDistinct bytes_eq) (sym e) (apart-more ids copy distinct new),
)
