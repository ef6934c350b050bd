-- The sorts of terms, kind by kind, and the named sorts as they are compiled.
use Rattle.std.proofs.Common.{◌≡◌, ℕ, zero, suc, ◌+◌, ◌<◌, ◌≤◌, ◌⊎◌, inl, inr, Bool, true, false, List, [], ◌∷◌, ◌++◌, map, length, length-set, set, take, get_or, refl, sym, ap, ◌∙◌, arith, subst, Some, None, Option}
use Rattle.std.proofs.lemmas.List.{get_or-set_same, get_or-set_other, map-append, take_all, take_more}
use Rattle.std.proofs.lemmas.Option.{get_or_from_slice_get, slice_get_within}
use Rattle.std.proofs.lemmas.Bool.{false≢true}
use Rattle.std.specs.Prelude.{is_some, MatchOption}
use Rattle.std.specs.List.{slice_get}
use Rattle.net_model.specs.declared.sorts.Span.{Span}
use Rattle.net_model.specs.declared.sorts.NamedSort.{NamedSort}
use Rattle.net_model.specs.declared.sorts.SortTerm.{SortTerm}
use Rattle.net_model.specs.declared.sorts.SortTerm.TheVariants as term
use Rattle.colour_sorts.specs.declared.sorts.Sort.{Sort}
use Rattle.colour_sorts.specs.declared.sorts.Sort.TheVariants as sort
use Rattle.net_model.specs.Ids.{ids_of}
use Rattle.colour_sorts.specs.Naming.{at_place, enough, has_end, place_of, sort_by, sort_by_part, sort_within, term_at}
use Rattle.colour_sorts.specs.Searching.{Has, IsEndless, IsOrder, Leads, places_named, places_named_part}
use Rattle.colour_sorts.specs.Compiling.{AreCompiledBy, Grows, IsCompiledAt, IsCompiledBy, IsCompiling, IsUncompiled, count_some, one_if_some}
use Rattle.colour_sorts.proofs.Judged.{sort-unknown}
use Rattle.net_model.proofs.Layers.{term-Cyclic, term-Dot, term-Listed, term-Named, term-Product, term-Range}
use Rattle.colour_sorts.proofs.PlacesIn.{get-at, none-is-some, some-is-some}
use Rattle.colour_sorts.proofs.Has.{front-or-end, has-part, set-cases}
use Rattle.colour_sorts.proofs.Named.{leads-inside, places-Product}

pub compiled-Dot : (ids : List (List ℕ)) (compiled : List (Option Sort)) (at : ℕ) → IsCompiledBy ids compiled at term.Dot sort.Dot
compiled-Dot ids compiled at = λ sorts steps e h. sym (term-Dot (sort_by_part (sort_within sorts steps) at))

pub compiled-Range : (ids : List (List ℕ)) (compiled : List (Option Sort)) (at : ℕ) (span : Span) → IsCompiledBy ids compiled at (term.Range span) (sort.Range span)
compiled-Range ids compiled at span = λ sorts steps e h. sym (term-Range (sort_by_part (sort_within sorts steps) at) span)

pub compiled-Listed : (ids : List (List ℕ)) (compiled : List (Option Sort)) (at : ℕ) (names : List (List ℕ)) → IsCompiledBy ids compiled at (term.Listed names) (sort.Listed at)
compiled-Listed ids compiled at names = λ sorts steps e h. sym (term-Listed (sort_by_part (sort_within sorts steps) at) names)

pub compiled-Cyclic : (ids : List (List ℕ)) (compiled : List (Option Sort)) (at : ℕ) (names : List (List ℕ)) → IsCompiledBy ids compiled at (term.Cyclic names) (sort.Cyclic at)
compiled-Cyclic ids compiled at names = λ sorts steps e h. sym (term-Cyclic (sort_by_part (sort_within sorts steps) at) names)

pub compiled-Product : (ids : List (List ℕ)) (compiled : List (Option Sort)) (at : ℕ) (parts : List SortTerm) (ss : List Sort)
    → AreCompiledBy ids compiled at parts ss → IsCompiledBy ids compiled at (term.Product parts) (sort.Product ss)
compiled-Product ids compiled at parts ss all = λ sorts steps e h.
    ap sort.Product (all sorts steps e h)
    ∙ sym (sort.rolls-Product (map (sort_by (sort_within sorts steps) at) parts))
    ∙ sym (term-Product (sort_by_part (sort_within sorts steps) at) parts)

pub compiled-Named : (ids : List (List ℕ)) (compiled : List (Option Sort)) (at : ℕ) (id : List ℕ) (place : ℕ) (s : Sort) → place_of ids id ≡ Some place
    → slice_get compiled place ≡ Some (Some s) → IsCompiledBy ids compiled at (term.Named id) s
compiled-Named ids compiled at id place s found done = λ sorts steps e h.
    h id place s (ap (λ ids. place_of ids id) (sym e) ∙ found) done ∙ sym (term-Named (sort_by_part (sort_within sorts steps) at) id)

pub compiled-missing : (ids : List (List ℕ)) (compiled : List (Option Sort)) (at : ℕ) (id : List ℕ) → place_of ids id ≡ None → IsCompiledBy ids compiled at (term.Named id) sort.Dot
compiled-missing ids compiled at id none = λ sorts steps e h.
    sym (term-Named (sort_by_part (sort_within sorts steps) at) id ∙ sort-unknown sorts steps id (ap (λ ids. place_of ids id) (sym e) ∙ none))

pub uncompiled-later : (ids : List (List ℕ)) (compiled : List (Option Sort)) (id : List ℕ) (place : ℕ) → place_of ids id ≡ Some place → slice_get compiled place ≡ Some None → IsUncompiled ids compiled (term.Named id)
uncompiled-later ids compiled id place e is =
    (place, subst (λ l. Has l place) (sym (term-Named (places_named_part ids) id ∙ ap (at_place [] (λ at. at ∷ [])) e)) (0, refl), is)

pub uncompiled-part : (ids : List (List ℕ)) (compiled : List (Option Sort)) (parts : List SortTerm) (i : ℕ) (part : SortTerm) → i < length parts → part ≡ get_or parts i part
    → IsUncompiled ids compiled part → IsUncompiled ids compiled (term.Product parts)
uncompiled-part ids compiled parts i part within is (at, has, none) =
    (at, subst (λ l. Has l at) (sym (places-Product ids parts)) (has-part (places_named ids) parts i part at within (sym is) has), none)

-- the same by places in the list of components
pub compiled-more : (ids : List (List ℕ)) (compiled : List (Option Sort)) (at : ℕ) (parts : List SortTerm) (i : ℕ) (part : SortTerm) (ss : List Sort) (s : Sort)
    → i < length parts → part ≡ get_or parts i part → AreCompiledBy ids compiled at (take i parts) ss → IsCompiledBy ids compiled at part s
    → AreCompiledBy ids compiled at (take (i + 1) parts) (ss ++ s ∷ [])
compiled-more ids compiled at parts i part ss s within is all one = λ sorts steps e h.
    (let f = sort_by (sort_within sorts steps) at in
    ap (λ xs. xs ++ s ∷ []) (all sorts steps e h)
    ∙ ap (λ x. map f (take i parts) ++ x ∷ []) (one sorts steps e h)
    ∙ sym (map-append f (take i parts) (part ∷ []))
    ∙ ap (λ t. map f (take i parts ++ t ∷ [])) is
    ∙ ap (map f) (sym (take_more parts i part within)))

pub compiled-all : (ids : List (List ℕ)) (compiled : List (Option Sort)) (at : ℕ) (parts : List SortTerm) (i : ℕ) (ss : List Sort) → length parts ≤ i
    → AreCompiledBy ids compiled at (take i parts) ss → AreCompiledBy ids compiled at parts ss
compiled-all ids compiled at parts i ss end all = λ sorts steps e h. all sorts steps e h ∙ ap (map (sort_by (sort_within sorts steps) at)) (take_all i parts end)

-- counts of what is compiled
count-set : (xs : List (Option Sort)) (i : ℕ) (s : Sort) → slice_get xs i ≡ Some None → count_some (set xs i (Some s)) ≡ count_some xs + 1
count-set [] i s e = absurd (none-is-some _ e)
count-set (x ∷ xs) zero s e = by x (some-is-some x None e)
  where
    by : (x : Option Sort) → x ≡ None → 1 + count_some xs ≡ (one_if_some x + count_some xs) + 1
    by x e = ap (λ n. n) (let z = ap one_if_some e in omega (arith, z))
count-set (x ∷ xs) (suc i) s e = let h = count-set xs i s e in omega (arith, h)

-- one more is compiled
pub compiling-more : (sorts : List NamedSort) (compiled : List (Option Sort)) (at : ℕ) (s : Sort) → IsCompiling sorts compiled → at < length sorts → slice_get compiled at ≡ Some None
    → IsCompiledBy (ids_of sorts) compiled at (term_at sorts at) s → IsCompiling sorts (set compiled at (Some s))
compiling-more sorts compiled at s known within empty one = record {
  as_long = length-set compiled at (Some s) ∙ known.as_long;
  settled = λ steps more id place z found e. settled steps more id place z found (set-cases compiled at (Some s) place (Some z) (omega (arith, within, known.as_long)) e);
}
  where
    settled : (steps : ℕ) → count_some (set compiled at (Some s)) < steps → (id : List ℕ) (place : ℕ) (z : Sort) → place_of (ids_of sorts) id ≡ Some place
        → ((place ≡ at) × (Some s ≡ Some z)) ⊎ ((place ≡ at → ⊥) × (slice_get compiled place ≡ Some (Some z))) → z ≡ sort_within sorts steps id
    settled zero more id place z found h = absurd (omega (arith, more))
    settled (suc steps) more id place z found (inl same) =
        sym (some-is-some s z same.1)
        ∙ one sorts steps refl (known.settled steps (omega (arith, more, count-set compiled at s empty)))
        ∙ sym (ap (at_place _ (λ at. sort_by (sort_within sorts steps) at (term_at sorts at))) (found ∙ ap Some same.0))
    settled (suc steps) more id place z found (inr other) =
        known.settled (suc steps) (omega (arith, more, count-set compiled at s empty)) id place z found other.1

pub grows-set : (compiled : List (Option Sort)) (at : ℕ) (s : Sort) → at < length compiled → Grows compiled (set compiled at (Some s))
grows-set compiled at s within = λ j e. by j (set-cases compiled at (Some s) j None within e)
  where
    by : (j : ℕ) → ((j ≡ at) × (Some s ≡ None)) ⊎ ((j ≡ at → ⊥) × (slice_get compiled j ≡ Some None)) → slice_get compiled j ≡ Some None
    by j (inl same) = absurd (none-is-some s (sym same.1))
    by j (inr other) = other.1

pub compiled-set : (compiled : List (Option Sort)) (at : ℕ) (s : Sort) → at < length compiled → IsCompiledAt (set compiled at (Some s)) at
compiled-set compiled at s within = λ e. by (set-cases compiled at (Some s) at None within e)
  where
    by : ((at ≡ at) × (Some s ≡ None)) ⊎ ((at ≡ at → ⊥) × (slice_get compiled at ≡ Some None)) → ⊥
    by (inl same) = none-is-some s (sym same.1)
    by (inr other) = other.0 refl

pub none-from : (o : Option Sort) → is_some o ≡ false → o ≡ None
none-from None e = refl
none-from (Some s) e = absurd (false≢true (sym e))

-- the sort that a name stands for
pub compiled-name : (sorts : List NamedSort) (compiled : List (Option Sort)) (at : ℕ) (t : SortTerm) (id : List ℕ) (place : ℕ) (s : Sort) → t ≡ term.Named id → place_of (ids_of sorts) id ≡ Some place
    → slice_get compiled place ≡ Some (Some s) → IsCompiledBy (ids_of sorts) compiled at t s
compiled-name sorts compiled at t id place s is found done = subst (λ t. IsCompiledBy (ids_of sorts) compiled at t s) (sym is) (compiled-Named (ids_of sorts) compiled at id place s found done)

pub named-leads : (sorts : List NamedSort) (at to : ℕ) (id : List ℕ) → term_at sorts at ≡ term.Named id → place_of (ids_of sorts) id ≡ Some to → Leads sorts at to
named-leads sorts at to id is found =
    subst (λ l. Has l to) (sym (ap (places_named (ids_of sorts)) is ∙ term-Named (places_named_part (ids_of sorts)) id ∙ ap (at_place [] (λ at. at ∷ [])) found)) (0, refl)

-- what is compiled has a sort
pub compiled-some : (compiled : List (Option Sort)) (at : ℕ) → at < length compiled → IsCompiledAt compiled at → (s : Sort) × (slice_get compiled at ≡ Some (Some s))
compiled-some compiled at within here = by (get_or compiled at None) refl
  where
    by : (o : Option Sort) → get_or compiled at None ≡ o → (s : Sort) × (slice_get compiled at ≡ Some (Some s))
    by None e = absurd (here (get-at compiled at None None within e))
    by (Some s) e = (s, get-at compiled at (Some s) None within e)

-- in the order all are compiled that a sort names
pub behind-compiled : (sorts : List NamedSort) (order : List ℕ) (compiled : List (Option Sort)) (i at : ℕ) → IsOrder sorts order → slice_get order i ≡ Some at
    → ((j to : ℕ) → j < i → slice_get order j ≡ Some to → IsCompiledAt compiled to) → ((at : ℕ) → at < length sorts → has_end sorts (term_at sorts at) ≡ true)
    → (to : ℕ) → Leads sorts at to → IsCompiledAt compiled to
behind-compiled sorts order compiled i at ordered here before ends to leads = by (ordered.behind i at to here leads)
  where
    by : ((j : ℕ) × (j < i) × (slice_get order j ≡ Some to)) ⊎ IsEndless sorts to → IsCompiledAt compiled to
    by (inl (j, less, e)) = before j to less e
    by (inr endless) = absurd (false≢true (sym (endless (enough sorts)) ∙ ends to (leads-inside sorts at to leads)))

-- the sort of a named sort is put in
pub record IsPut (sorts : List NamedSort) (old new : List (Option Sort)) (at : ℕ) : Type 0 where
  pub compiled : IsCompiling sorts new
  pub grows : Grows old new
  pub here : IsCompiledAt new at

pub put-one : (sorts : List NamedSort) (old new : List (Option Sort)) (at : ℕ) (s : Sort) → IsCompiling sorts old → at < length sorts → slice_get old at ≡ Some None
    → IsCompiledBy (ids_of sorts) old at (term_at sorts at) s → new ≡ set old at (Some s) → IsPut sorts old new at
put-one sorts old new at s known within empty one is = subst (λ now. IsPut sorts old now at) (sym is) (record {
  compiled = compiling-more sorts old at s known within empty one;
  grows = grows-set old at s (omega (arith, within, known.as_long));
  here = compiled-set old at s (omega (arith, within, known.as_long));
})

pub empty-place : {X : Type 0} (o : Option X) (P : Type 0) (Q : X → Type 0) → MatchOption o P Q → is_some o ≡ false → P
empty-place None P Q h e = h
empty-place (Some x) P Q h e = absurd (false≢true (sym e))

-- one position of the order more
pub all-more : (order : List ℕ) (old now : List (Option Sort)) (i : ℕ) → Grows old now → ((k at : ℕ) → k < i → slice_get order k ≡ Some at → IsCompiledAt old at)
    → IsCompiledAt now (get_or order i 0) → (k at : ℕ) → k < i + 1 → slice_get order k ≡ Some at → IsCompiledAt now at
all-more order old now i grows before here k at less e = by (front-or-end k i less)
  where
    by : ((k < i) ⊎ (k ≡ i)) → IsCompiledAt now at
    by (inl front) = λ none. before k at front e (grows at none)
    by (inr end) = subst (IsCompiledAt now) (ap (λ j. get_or order j 0) (sym end) ∙ get_or_from_slice_get order k at 0 e) here
