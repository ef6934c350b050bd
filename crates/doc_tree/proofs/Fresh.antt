-- Whether a name is new, by the names that are kept for look-ups.
use Rattle.std.proofs.Common.{◌≡◌, ℕ, Bool, true, false, cond, not, List, [], ◌∷◌, ◌++◌, map, length, take, drop, Some, None, refl, sym, ap, ◌∙◌, ◌||◌, take-append-drop}
use Rattle.std.specs.List.{list_any}
use Rattle.std.specs.Str.{bytes_eq}
use Rattle.name_tables.specs.Numbering.{number_in}
use Rattle.name_tables.proofs.Places.{position_none, position_some}
use Rattle.doc_model.specs.declared.tree.Attribute.{Attribute}
use Rattle.doc_tree.specs.Documents.{is_fresh}
use Rattle.doc_tree.specs.Known.{AreKnown}

abbrev names_of : List Attribute → List (List ℕ)
names_of ats = map (λ (a : Attribute). a.name) ats

fresh_append : (n : List ℕ) (a b : List Attribute) → is_fresh n (a ++ b) ≡ cond (is_fresh n a) (is_fresh n b) false
fresh_append n [] b = refl
fresh_append n (x ∷ a) b = pick (bytes_eq n x.name) (is_fresh n (a ++ b)) (is_fresh n a) (is_fresh n b) (fresh_append n a b)
  where
    pick : (t whole here there : Bool) → whole ≡ cond here there false → cond t false whole ≡ cond (cond t false here) there false
    pick true whole here there h = refl
    pick false whole here there h = h

fresh_any : (n : List ℕ) (a : List Attribute) → is_fresh n a ≡ not (list_any (bytes_eq n) (names_of a))
fresh_any n [] = refl
fresh_any n (x ∷ a) = pick (bytes_eq n x.name) (is_fresh n a) (list_any (bytes_eq n) (names_of a)) (fresh_any n a)
  where
    pick : (t fresh rest : Bool) → fresh ≡ not rest → cond t false fresh ≡ not (t || rest)
    pick true fresh rest h = refl
    pick false fresh rest h = h

none_any : (n : List ℕ) (names : List (List ℕ)) → number_in names n ≡ None → list_any (bytes_eq n) names ≡ false
none_any n names h = pick (list_any (bytes_eq n) names) refl
  where
    pick : (t : Bool) → list_any (bytes_eq n) names ≡ t → t ≡ false
    pick false e = refl
    pick true e = let some = position_some (bytes_eq n) names e in absurd (cc)

some_any : (n : List ℕ) (names : List (List ℕ)) (i : ℕ) → number_in names n ≡ Some i → list_any (bytes_eq n) names ≡ true
some_any n names i h = pick (list_any (bytes_eq n) names) refl
  where
    pick : (t : Bool) → list_any (bytes_eq n) names ≡ t → t ≡ true
    pick true e = refl
    pick false e = let no_place = position_none (bytes_eq n) names e in absurd (cc)

-- what is known, and the rest
whole_fresh : (n : List ℕ) (known : List (List ℕ)) (ats : List Attribute) → AreKnown known ats
    → is_fresh n ats ≡ cond (not (list_any (bytes_eq n) known)) (is_fresh n (drop (length known) ats)) false
whole_fresh n known ats h =
    let front = take (length known) ats in
    let rest = drop (length known) ats in
    ap (is_fresh n) (sym (take-append-drop (length known) ats)) ∙ fresh_append n front rest
    ∙ ap (λ (t : Bool). cond t (is_fresh n rest) false) (fresh_any n front ∙ ap (λ (names : List (List ℕ)). not (list_any (bytes_eq n) names)) (sym h.are))

pub known_taken : (n : List ℕ) (known : List (List ℕ)) (ats : List Attribute) (i : ℕ) → AreKnown known ats → number_in known n ≡ Some i → is_fresh n ats ≡ false
known_taken n known ats i h e =
    whole_fresh n known ats h ∙ ap (λ (t : Bool). cond (not t) (is_fresh n (drop (length known) ats)) false) (some_any n known i e)

pub known_fresh : (n : List ℕ) (known : List (List ℕ)) (ats : List Attribute) → AreKnown known ats → number_in known n ≡ None → is_fresh n ats ≡ is_fresh n (drop (length known) ats)
known_fresh n known ats h e =
    whole_fresh n known ats h ∙ ap (λ (t : Bool). cond (not t) (is_fresh n (drop (length known) ats)) false) (none_any n known e)
