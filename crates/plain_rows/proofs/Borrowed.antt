-- Adding a borrowed name to borrowed names is adding the name to the names.
use Rattle.std.proofs.Common.{◌≡◌, ℕ, Bool, true, false, cond, not, ◌||◌, List, [], ◌∷◌, ◌++◌, map, Bor, refl, sym, ap, ◌∙◌}
use Rattle.std.proofs.lemmas.List.{map-append}
use Rattle.std.specs.List.{list_any, position_or_len}
use Rattle.std.specs.Str.{bytes_eq}
use Rattle.name_tables.proofs.Places.{prefix_len-map}

abbrev text : Bor (List ℕ) → List ℕ
text name = name.now

abbrev pub texts : List (Bor (List ℕ)) → List (List ℕ)
texts names = map text names

pub list_any-texts : (p : List ℕ → Bool) (names : List (Bor (List ℕ))) → list_any p (texts names) ≡ list_any (λ name. p name.now) names
list_any-texts p [] = refl
list_any-texts p (name ∷ names) = ap (λ b. p name.now || b) (list_any-texts p names)

pub place_in_texts : (p : List ℕ → Bool) (names : List (Bor (List ℕ))) → position_or_len p (texts names) ≡ position_or_len (λ name. p name.now) names
place_in_texts p names = prefix_len-map text (λ name. not (p name)) names

grown_by : (b : Bool) (names : List (Bor (List ℕ))) (name : Bor (List ℕ))
    → texts (cond b names (names ++ name ∷ [])) ≡ cond b (texts names) (texts names ++ name.now ∷ [])
grown_by true names name = refl
grown_by false names name = map-append text names (name ∷ [])

pub grown_texts : (names : List (Bor (List ℕ))) (name : Bor (List ℕ)) (after : List (Bor (List ℕ)))
    → after ≡ cond (list_any (λ k. bytes_eq name.now k.now) names) names (names ++ name ∷ [])
    → texts after ≡ cond (list_any (bytes_eq name.now) (texts names)) (texts names) (texts names ++ name.now ∷ [])
grown_texts names name after grown =
    ap texts grown
    ∙ grown_by (list_any (λ k. bytes_eq name.now k.now) names) names name
    ∙ ap (λ b. cond b (texts names) (texts names ++ name.now ∷ [])) (sym (list_any-texts (bytes_eq name.now) names))
