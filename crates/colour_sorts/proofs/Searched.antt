-- Steps of the search along names for an order of the named sorts.
use Rattle.std.proofs.Common.{◌≡◌, ℕ, zero, suc, ◌+◌, ◌<◌, ◌≤◌, ◌⊎◌, inl, inr, false, List, [], ◌∷◌, ◌++◌, map, take, length, length-append, length-set, replicate, set, get_or, refl, sym, ap, ◌∙◌, arith, subst, Some}
use Rattle.std.proofs.lemmas.List.{append_assoc, flat_map_more, get_or-set_same, get_or-set_other, length-map, length-replicate, map-append, take_more}
use Rattle.std.proofs.lemmas.List.Elements.{All-append, All-cons, All-nil}
use Rattle.std.proofs.lemmas.Option.{get_or_from_slice_get, slice_get_within}
use Rattle.std.specs.List.{slice_get}
use Rattle.std.specs.Prelude.{All, flat_map}
use Rattle.colour_sorts.specs.declared.ordering.Turn.{Turn}
use Rattle.colour_sorts.specs.declared.ordering.Turn.TheVariants.{Enter, Leave}
use Rattle.colour_sorts.specs.declared.ordering.Visit.{Visit}
use Rattle.colour_sorts.specs.declared.ordering.Visit.TheVariants.{Fresh, Open, Placed}
use Rattle.net_model.specs.declared.sorts.NamedSort.{NamedSort}
use Rattle.net_model.specs.declared.sorts.SortTerm.{SortTerm}
use Rattle.net_model.specs.declared.sorts.SortTerm.TheVariants as term
use Rattle.net_model.proofs.Layers.{term-Cyclic, term-Dot, term-Listed, term-Named, term-Product, term-Range}
use Rattle.net_model.specs.Ids.{ids_of}
use Rattle.colour_sorts.specs.Naming.{at_place, ends_within, names_pass, place_of, term_at}
use Rattle.colour_sorts.specs.Searching.{AreBehind, AreEntries, Has, IsEndless, IsOrder, IsSearch, Leads, Reaches, place_in_turn, places_named, places_named_part, steps_of, steps_of_all, visit_at}
use Rattle.colour_sorts.specs.Searching.Reaches.{here, on}
use Rattle.colour_sorts.proofs.Has.{equal-or-not, front-or-end, get-back, get-cases, get-front, get-last, has-back, has-cases, has-front, has-mapped, one-at, set-cases, snoc-cases}
use Rattle.colour_sorts.proofs.Named.{names-fail}
use Rattle.colour_sorts.proofs.PlacesIn.{get-at, none-is-some, slice_get-mapped, some-is-some}

-- turns and visits are told apart
pub enter-leave : (a b : ℕ) → Enter a ≡ Leave b → ⊥
enter-leave a b e = grind arith

pub enter-is : (a b : ℕ) → Enter a ≡ Enter b → a ≡ b
enter-is a b e = ap place_in_turn e

pub leave-is : (a b : ℕ) → Leave a ≡ Leave b → a ≡ b
leave-is a b e = ap place_in_turn e

open-fresh : Open ≡ Fresh → ⊥
open-fresh e = grind arith

open-placed : Open ≡ Placed → ⊥
open-placed e = grind arith

placed-open : Placed ≡ Open → ⊥
placed-open e = grind arith

placed-fresh : Placed ≡ Fresh → ⊥
placed-fresh e = grind arith

-- the visit of a sort is another one
pub steps-set : (ids : List (List ℕ)) (sorts : List NamedSort) (visits : List Visit) (i : ℕ) (v : Visit) (d : NamedSort) → i < length visits → length visits ≡ length sorts
    → steps_of_all ids sorts (set visits i v) + steps_of ids (get_or visits i Fresh) (get_or sorts i d) ≡ steps_of_all ids sorts visits + steps_of ids v (get_or sorts i d)
steps-set ids sorts [] i v d within e = absurd (omega (arith, within))
steps-set ids [] (w ∷ visits) i v d within e = absurd (omega (arith, e))
steps-set ids (s ∷ sorts) (w ∷ visits) zero v d within e = omega arith
steps-set ids (s ∷ sorts) (w ∷ visits) (suc i) v d within e = let h = steps-set ids sorts visits i v d (omega (arith, within)) (omega (arith, e)) in omega (arith, h)

-- a way round
circle : (sorts : List NamedSort) (x b : ℕ) → Leads sorts x b → Reaches sorts b x → (steps y : ℕ) → Reaches sorts y x → names_pass (ends_within sorts steps) (term_at sorts y) ≡ false
circle sorts x b leads back zero y (here _ _) = names-fail sorts x b (ends_within sorts zero) leads (λ id e. refl)
circle sorts x b leads back zero y (on _ _ to _ first rest) = names-fail sorts y to (ends_within sorts zero) first (λ id e. refl)
circle sorts x b leads back (suc steps) y (here _ _) =
    names-fail sorts x b (ends_within sorts (suc steps)) leads (λ id e. ap (at_place _ (λ at. names_pass (ends_within sorts steps) (term_at sorts at))) e ∙ circle sorts x b leads back steps b back)
circle sorts x b leads back (suc steps) y (on _ _ to _ first rest) =
    names-fail sorts y to (ends_within sorts (suc steps)) first (λ id e. ap (at_place _ (λ at. names_pass (ends_within sorts steps) (term_at sorts at))) e ∙ circle sorts x b leads back steps to rest)

pub endless-round : (sorts : List NamedSort) (x b : ℕ) → Leads sorts x b → Reaches sorts b x → IsEndless sorts b
endless-round sorts x b leads back = λ steps. circle sorts x b leads back steps b back

pub endless-before : (sorts : List NamedSort) (x b : ℕ) → Leads sorts x b → IsEndless sorts b → IsEndless sorts x
endless-before sorts x b leads endless = λ steps. by steps
  where
    by : (steps : ℕ) → names_pass (ends_within sorts steps) (term_at sorts x) ≡ false
    by zero = names-fail sorts x b (ends_within sorts zero) leads (λ id e. refl)
    by (suc steps) = names-fail sorts x b (ends_within sorts (suc steps)) leads (λ id e. ap (at_place _ (λ at. names_pass (ends_within sorts steps) (term_at sorts at))) e ∙ endless steps)

further : (sorts : List NamedSort) (a b c : ℕ) → Reaches sorts a b → Leads sorts b c → Reaches sorts a c
further sorts a b c (here _ _) leads = on sorts a c c leads (here sorts c)
further sorts a b c (on _ _ to _ first rest) leads = on sorts a to c first (further sorts to b c rest leads)

-- visits with one set
visit-other : (visits : List Visit) (at : ℕ) (v : Visit) (j : ℕ) → (j ≡ at → ⊥) → visit_at (set visits at v) j ≡ visit_at visits j
visit-other visits at v j other = get_or-set_other visits at j v Fresh other

visit-same : (visits : List Visit) (at : ℕ) (v : Visit) → at < length visits → visit_at (set visits at v) at ≡ v
visit-same visits at v within = get_or-set_same visits at v Fresh within

-- a sort that was entered already
pub search-skip : (sorts : List NamedSort) (visits : List Visit) (waiting : List Turn) (order : List ℕ) (at : ℕ) → IsSearch sorts visits (waiting ++ Enter at ∷ []) order
    → (visit_at visits at ≡ Fresh → ⊥) → IsSearch sorts visits waiting order
search-skip sorts visits waiting order at search seen = record {
  as_long = search.as_long;
  inside = λ k turn e. search.inside k turn (get-front waiting (Enter at ∷ []) k turn e);
  within = search.within;
  placed = search.placed;
  left = λ j open_. still j (search.left j open_);
  fresh = λ j within fresh. waits j fresh (search.fresh j within fresh);
  way = λ k j from turn e less f. search.way k j from turn (get-front waiting (Enter at ∷ []) k (Leave from) e) less (get-front waiting (Enter at ∷ []) j turn f);
  named = λ k from to e leads fresh. later k to fresh (search.named k from to (get-front waiting (Enter at ∷ []) k (Leave from) e) leads fresh);
  behind = search.behind;
}
  where
    still : (j : ℕ) → Has (waiting ++ Enter at ∷ []) (Leave j) → Has waiting (Leave j)
    still j (k, e) = by (snoc-cases waiting (Enter at) k (Leave j) e)
      where
        by : ((k < length waiting) × (slice_get waiting k ≡ Some (Leave j))) ⊎ ((k ≡ length waiting) × (Enter at ≡ Leave j)) → Has waiting (Leave j)
        by (inl front) = (k, front.1)
        by (inr last) = absurd (enter-leave at j last.1)

    waits : (j : ℕ) → visit_at visits j ≡ Fresh → Has (waiting ++ Enter at ∷ []) (Enter j) → Has waiting (Enter j)
    waits j fresh (k, e) = by (snoc-cases waiting (Enter at) k (Enter j) e)
      where
        by : ((k < length waiting) × (slice_get waiting k ≡ Some (Enter j))) ⊎ ((k ≡ length waiting) × (Enter at ≡ Enter j)) → Has waiting (Enter j)
        by (inl front) = (k, front.1)
        by (inr last) = absurd (seen (ap (visit_at visits) (enter-is at j last.1) ∙ fresh))

    later : (k to : ℕ) → visit_at visits to ≡ Fresh → (j : ℕ) × (k < j) × (slice_get (waiting ++ Enter at ∷ []) j ≡ Some (Enter to)) → (j : ℕ) × (k < j) × (slice_get waiting j ≡ Some (Enter to))
    later k to fresh (j, less, e) = by (snoc-cases waiting (Enter at) j (Enter to) e)
      where
        by : ((j < length waiting) × (slice_get waiting j ≡ Some (Enter to))) ⊎ ((j ≡ length waiting) × (Enter at ≡ Enter to)) → (j : ℕ) × (k < j) × (slice_get waiting j ≡ Some (Enter to))
        by (inl front) = (j, less, front.1)
        by (inr last) = absurd (seen (ap (visit_at visits) (enter-is at to last.1) ∙ fresh))

-- what stands at a place among those that wait behind a sort
abbrev Stands : List Turn → ℕ → List ℕ → ℕ → Turn → Type 0
Stands waiting at more k turn =
    ((k < length waiting) × (slice_get waiting k ≡ Some turn)) ⊎ (((k ≡ length waiting) × (Leave at ≡ turn)) ⊎ ((to : ℕ) × (length waiting < k) × (turn ≡ Enter to) × Has more to))

stands-at : (waiting : List Turn) (at : ℕ) (more : List ℕ) (k : ℕ) (turn : Turn) → slice_get ((waiting ++ Leave at ∷ []) ++ map Enter more) k ≡ Some turn → Stands waiting at more k turn
stands-at waiting at more k turn e = by (get-cases (waiting ++ Leave at ∷ []) (map Enter more) k turn e)
  where
    last : ((k < length waiting) × (slice_get waiting k ≡ Some turn)) ⊎ ((k ≡ length waiting) × (Leave at ≡ turn)) → Stands waiting at more k turn
    last (inl front) = inl front
    last (inr end) = inr (inl end)

    named : (j : ℕ) → k ≡ length (waiting ++ Leave at ∷ []) + j → (to : ℕ) × (slice_get more j ≡ Some to) × (Enter to ≡ turn) → Stands waiting at more k turn
    named j is (to, there, same) = inr (inr (to, omega (arith, is, length-append waiting (Leave at ∷ [])), sym same, (j, there)))

    by : ((k < length (waiting ++ Leave at ∷ [])) × (slice_get (waiting ++ Leave at ∷ []) k ≡ Some turn)) ⊎ ((j : ℕ) × (k ≡ length (waiting ++ Leave at ∷ []) + j) × (slice_get (map Enter more) j ≡ Some turn)) → Stands waiting at more k turn
    by (inl front) = last (snoc-cases waiting (Leave at) k turn front.1)
    by (inr (j, is, there)) = named j is (slice_get-mapped Enter more j turn there)

-- a sort is entered
pub search-enter : (sorts : List NamedSort) (visits : List Visit) (waiting : List Turn) (order : List ℕ) (at : ℕ) → at < length sorts → IsSearch sorts visits (waiting ++ Enter at ∷ []) order
    → visit_at visits at ≡ Fresh → ((to : ℕ) → Leads sorts at to → to < length sorts)
    → IsSearch sorts (set visits at Open) ((waiting ++ Leave at ∷ []) ++ map Enter (places_named (ids_of sorts) (term_at sorts at))) order
search-enter sorts visits waiting order at within search was known = record {
  as_long = length-set visits at Open ∙ search.as_long;
  inside = λ k turn e. inside k turn (stands-at waiting at more k turn e);
  within = search.within;
  placed = λ j is. placed j is (equal-or-not j at);
  left = λ j is. left j is (equal-or-not j at);
  fresh = λ j small is. waits j (not-at j is) (search.fresh j small (old-fresh j is));
  way = λ k j from turn e less f. way k j from turn less (stands-at waiting at more k (Leave from) e) (stands-at waiting at more j turn f);
  named = λ k from to e leads is. named k from to leads is (stands-at waiting at more k (Leave from) e);
  behind = search.behind;
}
  where
    more : List ℕ
    more = places_named (ids_of sorts) (term_at sorts at)

    all : List Turn
    all = (waiting ++ Leave at ∷ []) ++ map Enter more

    there : at < length visits
    there = omega (arith, within, search.as_long)

    front : (k : ℕ) (turn : Turn) → slice_get waiting k ≡ Some turn → slice_get all k ≡ Some turn
    front k turn e = get-front (waiting ++ Leave at ∷ []) (map Enter more) k turn (get-front waiting (Leave at ∷ []) k turn e)

    old : (k : ℕ) (turn : Turn) → slice_get waiting k ≡ Some turn → slice_get (waiting ++ Enter at ∷ []) k ≡ Some turn
    old k turn e = get-front waiting (Enter at ∷ []) k turn e

    inside : (k : ℕ) (turn : Turn) → Stands waiting at more k turn → place_in_turn turn < length sorts
    inside k turn (inl before) = search.inside k turn (old k turn before.1)
    inside k turn (inr (inl end)) = subst (λ t. place_in_turn t < length sorts) end.1 within
    inside k turn (inr (inr (to, _, is, leads))) = subst (λ t. place_in_turn t < length sorts) (sym is) (known to leads)

    not-at : (j : ℕ) → visit_at (set visits at Open) j ≡ Fresh → j ≡ at → ⊥
    not-at j is same = open-fresh (sym (visit-same visits at Open there) ∙ ap (visit_at (set visits at Open)) (sym same) ∙ is)

    old-fresh : (j : ℕ) → visit_at (set visits at Open) j ≡ Fresh → visit_at visits j ≡ Fresh
    old-fresh j is = sym (visit-other visits at Open j (not-at j is)) ∙ is

    placed : (j : ℕ) → visit_at (set visits at Open) j ≡ Placed → ((j ≡ at) ⊎ (j ≡ at → ⊥)) → Has order j
    placed j is (inl same) = absurd (open-placed (sym (visit-same visits at Open there) ∙ ap (visit_at (set visits at Open)) (sym same) ∙ is))
    placed j is (inr other) = search.placed j (sym (visit-other visits at Open j other) ∙ is)

    left : (j : ℕ) → visit_at (set visits at Open) j ≡ Open → ((j ≡ at) ⊎ (j ≡ at → ⊥)) → Has all (Leave j)
    left j is (inl same) = (length waiting, get-front (waiting ++ Leave at ∷ []) (map Enter more) (length waiting) (Leave j) (get-last waiting (Leave at) ∙ ap (λ a. Some (Leave a)) (sym same)))
    left j is (inr other) = by (search.left j (sym (visit-other visits at Open j other) ∙ is))
      where
        by : Has (waiting ++ Enter at ∷ []) (Leave j) → Has all (Leave j)
        by (k, e) = by2 (snoc-cases waiting (Enter at) k (Leave j) e)
          where
            by2 : ((k < length waiting) × (slice_get waiting k ≡ Some (Leave j))) ⊎ ((k ≡ length waiting) × (Enter at ≡ Leave j)) → Has all (Leave j)
            by2 (inl before) = (k, front k (Leave j) before.1)
            by2 (inr end) = absurd (enter-leave at j end.1)

    waits : (j : ℕ) → (j ≡ at → ⊥) → Has (waiting ++ Enter at ∷ []) (Enter j) → Has all (Enter j)
    waits j other (k, e) = by (snoc-cases waiting (Enter at) k (Enter j) e)
      where
        by : ((k < length waiting) × (slice_get waiting k ≡ Some (Enter j))) ⊎ ((k ≡ length waiting) × (Enter at ≡ Enter j)) → Has all (Enter j)
        by (inl before) = (k, front k (Enter j) before.1)
        by (inr end) = absurd (other (sym (enter-is at j end.1)))

    way : (k j from : ℕ) (turn : Turn) → k < j → Stands waiting at more k (Leave from) → Stands waiting at more j turn → Reaches sorts from (place_in_turn turn)
    way k j from turn less (inl before) (inl now) = search.way k j from turn (old k (Leave from) before.1) less (old j turn now.1)
    way k j from turn less (inl before) (inr (inl end)) =
        subst (λ t. Reaches sorts from (place_in_turn t)) end.1
        (search.way k (length waiting) from (Enter at) (old k (Leave from) before.1) before.0 (get-last waiting (Enter at)))
    way k j from turn less (inl before) (inr (inr (to, _, is, leads))) =
        subst (λ t. Reaches sorts from (place_in_turn t)) (sym is)
        (further sorts from at to (search.way k (length waiting) from (Enter at) (old k (Leave from) before.1) before.0 (get-last waiting (Enter at))) leads)
    way k j from turn less (inr (inl mine)) (inl now) = absurd (omega (arith, less, mine.0, now.0))
    way k j from turn less (inr (inl mine)) (inr (inl end)) = absurd (omega (arith, less, mine.0, end.0))
    way k j from turn less (inr (inl mine)) (inr (inr (to, _, is, leads))) =
        subst (λ t. Reaches sorts from (place_in_turn t)) (sym is)
        (subst (λ a. Reaches sorts a to) (leave-is at from mine.1) (on sorts at to to leads (here sorts to)))
    way k j from turn less (inr (inr (to, _, is, leads))) _ = absurd (enter-leave to from (sym is))

    named : (k from to : ℕ) → Leads sorts from to → visit_at (set visits at Open) to ≡ Fresh → Stands waiting at more k (Leave from) → (j : ℕ) × (k < j) × (slice_get all j ≡ Some (Enter to))
    named k from to leads is (inl before) = by (search.named k from to (old k (Leave from) before.1) leads (old-fresh to is))
      where
        by : (j : ℕ) × (k < j) × (slice_get (waiting ++ Enter at ∷ []) j ≡ Some (Enter to)) → (j : ℕ) × (k < j) × (slice_get all j ≡ Some (Enter to))
        by (j, less, e) = by2 (snoc-cases waiting (Enter at) j (Enter to) e)
          where
            by2 : ((j < length waiting) × (slice_get waiting j ≡ Some (Enter to))) ⊎ ((j ≡ length waiting) × (Enter at ≡ Enter to)) → (j : ℕ) × (k < j) × (slice_get all j ≡ Some (Enter to))
            by2 (inl now) = (j, less, front j (Enter to) now.1)
            by2 (inr end) = absurd (not-at to is (sym (enter-is at to end.1)))
    named k from to leads is (inr (inl mine)) = by (has-mapped Enter more to (subst (λ a. Leads sorts a to) (sym (leave-is at from mine.1)) leads))
      where
        by : Has (map Enter more) (Enter to) → (j : ℕ) × (k < j) × (slice_get all j ≡ Some (Enter to))
        by (j, e) = (length (waiting ++ Leave at ∷ []) + j, omega (arith, mine.0, length-append waiting (Leave at ∷ [])), get-back (waiting ++ Leave at ∷ []) (map Enter more) j (Enter to) e)
    named k from to leads is (inr (inr (other, _, same, _))) = absurd (enter-leave other from (sym same))

-- a sort goes into the order
pub search-leave : (sorts : List NamedSort) (visits : List Visit) (waiting : List Turn) (order : List ℕ) (at : ℕ) → at < length visits → IsSearch sorts visits (waiting ++ Leave at ∷ []) order
    → IsSearch sorts (set visits at Placed) waiting (order ++ at ∷ [])
search-leave sorts visits waiting order at there search = record {
  as_long = length-set visits at Placed ∙ search.as_long;
  inside = λ k turn e. search.inside k turn (old k turn e);
  within = All-append (λ at. at < length sorts) order (at ∷ []) search.within (All-cons (λ at. at < length sorts) at [] (omega (arith, there, search.as_long)) (All-nil (λ at. at < length sorts)));
  placed = λ j is. placed j is (equal-or-not j at);
  left = λ j is. left j is (equal-or-not j at);
  fresh = λ j small is. waits j (search.fresh j small (old-fresh j is));
  way = λ k j from turn e less f. search.way k j from turn (old k (Leave from) e) less (old j turn f);
  named = λ k from to e leads is. later k to (search.named k from to (old k (Leave from) e) leads (old-fresh to is));
  behind = λ k from to e leads. behind k from to leads (snoc-cases order at k from e);
}
  where
    old : (k : ℕ) (turn : Turn) → slice_get waiting k ≡ Some turn → slice_get (waiting ++ Leave at ∷ []) k ≡ Some turn
    old k turn e = get-front waiting (Leave at ∷ []) k turn e

    not-at : (j : ℕ) (v : Visit) → (Placed ≡ v → ⊥) → visit_at (set visits at Placed) j ≡ v → j ≡ at → ⊥
    not-at j v apart is same = apart (sym (visit-same visits at Placed there) ∙ ap (visit_at (set visits at Placed)) (sym same) ∙ is)

    old-fresh : (j : ℕ) → visit_at (set visits at Placed) j ≡ Fresh → visit_at visits j ≡ Fresh
    old-fresh j is = sym (visit-other visits at Placed j (not-at j Fresh placed-fresh is)) ∙ is

    placed : (j : ℕ) → visit_at (set visits at Placed) j ≡ Placed → ((j ≡ at) ⊎ (j ≡ at → ⊥)) → Has (order ++ at ∷ []) j
    placed j is (inl same) = (length order, get-last order at ∙ ap Some (sym same))
    placed j is (inr other) = has-front order (at ∷ []) j (search.placed j (sym (visit-other visits at Placed j other) ∙ is))

    left : (j : ℕ) → visit_at (set visits at Placed) j ≡ Open → ((j ≡ at) ⊎ (j ≡ at → ⊥)) → Has waiting (Leave j)
    left j is (inl same) = absurd (not-at j Open placed-open is same)
    left j is (inr other) = by (search.left j (sym (visit-other visits at Placed j other) ∙ is))
      where
        by : Has (waiting ++ Leave at ∷ []) (Leave j) → Has waiting (Leave j)
        by (k, e) = by2 (snoc-cases waiting (Leave at) k (Leave j) e)
          where
            by2 : ((k < length waiting) × (slice_get waiting k ≡ Some (Leave j))) ⊎ ((k ≡ length waiting) × (Leave at ≡ Leave j)) → Has waiting (Leave j)
            by2 (inl before) = (k, before.1)
            by2 (inr end) = absurd (other (sym (leave-is at j end.1)))

    waits : (j : ℕ) → Has (waiting ++ Leave at ∷ []) (Enter j) → Has waiting (Enter j)
    waits j (k, e) = by (snoc-cases waiting (Leave at) k (Enter j) e)
      where
        by : ((k < length waiting) × (slice_get waiting k ≡ Some (Enter j))) ⊎ ((k ≡ length waiting) × (Leave at ≡ Enter j)) → Has waiting (Enter j)
        by (inl before) = (k, before.1)
        by (inr end) = absurd (enter-leave j at (sym end.1))

    later : (k to : ℕ) → (j : ℕ) × (k < j) × (slice_get (waiting ++ Leave at ∷ []) j ≡ Some (Enter to)) → (j : ℕ) × (k < j) × (slice_get waiting j ≡ Some (Enter to))
    later k to (j, less, e) = by (snoc-cases waiting (Leave at) j (Enter to) e)
      where
        by : ((j < length waiting) × (slice_get waiting j ≡ Some (Enter to))) ⊎ ((j ≡ length waiting) × (Leave at ≡ Enter to)) → (j : ℕ) × (k < j) × (slice_get waiting j ≡ Some (Enter to))
        by (inl before) = (j, less, before.1)
        by (inr end) = absurd (enter-leave to at (sym end.1))

    back : (to : ℕ) → Has (waiting ++ Leave at ∷ []) (Leave to) → Reaches sorts to at
    back to (k, e) = by (snoc-cases waiting (Leave at) k (Leave to) e)
      where
        by : ((k < length waiting) × (slice_get waiting k ≡ Some (Leave to))) ⊎ ((k ≡ length waiting) × (Leave at ≡ Leave to)) → Reaches sorts to at
        by (inl before) = search.way k (length waiting) to (Leave at) e before.0 (get-last waiting (Leave at))
        by (inr end) = subst (λ a. Reaches sorts a at) (leave-is at to end.1) (here sorts at)

    done : (to : ℕ) → Leads sorts at to → (v : Visit) → visit_at visits to ≡ v → ((j : ℕ) × (j < length order) × (slice_get (order ++ at ∷ []) j ≡ Some to)) ⊎ IsEndless sorts to
    done to leads Fresh is = absurd (past (search.named (length waiting) at to (get-last waiting (Leave at)) leads is))
      where
        past : (j : ℕ) × (length waiting < j) × (slice_get (waiting ++ Leave at ∷ []) j ≡ Some (Enter to)) → ⊥
        past (j, less, e) = omega (arith, less, slice_get_within (waiting ++ Leave at ∷ []) j (Enter to) e, length-append waiting (Leave at ∷ []))
    done to leads Open is = inr (endless-round sorts at to leads (back to (search.left to is)))
    done to leads Placed is = by (search.placed to is)
      where
        by : Has order to → ((j : ℕ) × (j < length order) × (slice_get (order ++ at ∷ []) j ≡ Some to)) ⊎ IsEndless sorts to
        by (j, e) = inl (j, slice_get_within order j to e, get-front order (at ∷ []) j to e)

    behind : (k from to : ℕ) → Leads sorts from to → ((k < length order) × (slice_get order k ≡ Some from)) ⊎ ((k ≡ length order) × (at ≡ from))
        → ((j : ℕ) × (j < k) × (slice_get (order ++ at ∷ []) j ≡ Some to)) ⊎ IsEndless sorts to
    behind k from to leads (inl before) = by (search.behind k from to before.1 leads)
      where
        by : ((j : ℕ) × (j < k) × (slice_get order j ≡ Some to)) ⊎ IsEndless sorts to → ((j : ℕ) × (j < k) × (slice_get (order ++ at ∷ []) j ≡ Some to)) ⊎ IsEndless sorts to
        by (inl (j, less, e)) = inl (j, less, get-front order (at ∷ []) j to e)
        by (inr endless) = inr endless
    behind k from to leads (inr end) = by (done to (subst (λ a. Leads sorts a to) (sym end.1) leads) (visit_at visits to) refl)
      where
        by : ((j : ℕ) × (j < length order) × (slice_get (order ++ at ∷ []) j ≡ Some to)) ⊎ IsEndless sorts to → ((j : ℕ) × (j < k) × (slice_get (order ++ at ∷ []) j ≡ Some to)) ⊎ IsEndless sorts to
        by (inl (j, less, e)) = inl (j, omega (arith, less, end.0), e)
        by (inr endless) = inr endless

-- where nothing was entered, and where nothing waits
fresh-visit : (n j : ℕ) → visit_at (replicate n Fresh) j ≡ Fresh
fresh-visit zero j = refl
fresh-visit (suc n) zero = refl
fresh-visit (suc n) (suc j) = fresh-visit n j

pub search-start : (sorts : List NamedSort) (visits : List Visit) (waiting : List Turn) (order : List ℕ) → visits ≡ replicate (length sorts) Fresh → AreEntries (length sorts) waiting → order ≡ []
    → IsSearch sorts visits waiting order
search-start sorts visits waiting order is entries none = subst (λ vs. IsSearch sorts vs waiting order) (sym is) (subst (IsSearch sorts (replicate (length sorts) Fresh) waiting) (sym none) (record {
  as_long = length-replicate (length sorts) Fresh;
  inside = λ k turn e. (let w = small k turn e in subst (λ t. place_in_turn t < length sorts) (entry k turn e) w);
  within = All-nil (λ at. at < length sorts);
  placed = λ at is. absurd (placed-fresh (sym is ∙ fresh-visit (length sorts) at));
  left = λ at is. absurd (open-fresh (sym is ∙ fresh-visit (length sorts) at));
  fresh = λ at within is. (at, entries.each at within);
  way = λ k j at turn e. absurd (enter-leave k at (entry k (Leave at) e));
  named = λ k at to e. absurd (enter-leave k at (entry k (Leave at) e));
  behind = λ k at to e. absurd (none-is-some at e);
}))
  where
    small : (k : ℕ) (turn : Turn) → slice_get waiting k ≡ Some turn → k < length sorts
    small k turn e = omega (arith, slice_get_within waiting k turn e, entries.as_long)

    entry : (k : ℕ) (turn : Turn) → slice_get waiting k ≡ Some turn → Enter k ≡ turn
    entry k turn e = some-is-some (Enter k) turn (sym (entries.each k (small k turn e)) ∙ e)

pub search-end : (sorts : List NamedSort) (visits : List Visit) (order : List ℕ) → IsSearch sorts visits [] order → IsOrder sorts order
search-end sorts visits order search = record { within = search.within; complete = λ at within. by at within (visit_at visits at) refl; behind = search.behind }
  where
    by : (at : ℕ) → at < length sorts → (v : Visit) → visit_at visits at ≡ v → Has order at
    by at within Fresh is = absurd (nowhere (search.fresh at within is))
      where
        nowhere : Has [] (Enter at) → ⊥
        nowhere (k, e) = none-is-some (Enter at) e
    by at within Open is = absurd (nowhere (search.left at is))
      where
        nowhere : Has [] (Leave at) → ⊥
        nowhere (k, e) = none-is-some (Leave at) e
    by at within Placed is = search.placed at is

pub entries-more : (at : ℕ) (waiting more : List Turn) → more ≡ waiting ++ Enter at ∷ [] → AreEntries at waiting → AreEntries (at + 1) more
entries-more at waiting more is entries = subst (AreEntries (at + 1)) (sym is) (record {
  as_long = length-append waiting (Enter at ∷ []) ∙ (let h = entries.as_long in omega (arith, h));
  each = λ k within. by k (front-or-end k at within);
})
  where
    by : (k : ℕ) → ((k < at) ⊎ (k ≡ at)) → slice_get (waiting ++ Enter at ∷ []) k ≡ Some (Enter k)
    by k (inl front) = get-front waiting (Enter at ∷ []) k (Enter k) (entries.each k front)
    by k (inr end) = ap (slice_get (waiting ++ Enter at ∷ [])) (end ∙ sym entries.as_long) ∙ get-last waiting (Enter at) ∙ ap (λ a. Some (Enter a)) (sym end)

-- one component more
pub pushed-more : (ids : List (List ℕ)) (waiting : List Turn) (parts : List SortTerm) (i : ℕ) (part : SortTerm) → i < length parts → part ≡ get_or parts i part
    → (waiting ++ map Enter (flat_map (places_named ids) (take i parts))) ++ map Enter (places_named ids part) ≡ waiting ++ map Enter (flat_map (places_named ids) (take (i + 1) parts))
pushed-more ids waiting parts i part within is =
    append_assoc waiting (map Enter (flat_map (places_named ids) (take i parts))) (map Enter (places_named ids part))
    ∙ ap (λ xs. waiting ++ xs) (sym (map-append Enter (flat_map (places_named ids) (take i parts)) (places_named ids part)))
    ∙ ap (λ xs. waiting ++ map Enter xs) (flat_map_more (places_named ids) [] (take i parts) part)
    ∙ ap (λ ts. waiting ++ map Enter (flat_map (places_named ids) ts)) (ap (λ p. take i parts ++ p ∷ []) is ∙ sym (take_more parts i part within))

-- how many steps are left
pub enter-less : (ids : List (List ℕ)) (sorts : List NamedSort) (visits : List Visit) (at n : ℕ) (d : NamedSort) → at < length visits → length visits ≡ length sorts → visit_at visits at ≡ Fresh
    → n ≡ length (places_named ids (get_or sorts at d).sort) → steps_of_all ids sorts (set visits at Open) + (n + 2) ≡ steps_of_all ids sorts visits
enter-less ids sorts visits at n d within long fresh count =
    let set_so = steps-set ids sorts visits at Open d within long in
    let one : steps_of ids (get_or visits at Fresh) (get_or sorts at d) ≡ length (places_named ids (get_or sorts at d).sort) + 2 = ap (λ v. steps_of ids v (get_or sorts at d)) fresh in
    omega (arith, set_so, one, count)

pub leave-less : (ids : List (List ℕ)) (sorts : List NamedSort) (visits : List Visit) (at : ℕ) → at < length visits → length visits ≡ length sorts → steps_of_all ids sorts (set visits at Placed) ≤ steps_of_all ids sorts visits
leave-less ids sorts visits at within long = let h = steps-set ids sorts visits at Placed (record { id = []; sort = term.Dot }) within long in omega (arith, h)

pub enter-count : (waiting mid new : List Turn) (turn : Turn) (more : List ℕ) → mid ≡ waiting ++ turn ∷ [] → new ≡ mid ++ map Enter more → length new ≡ (length waiting + 1) + length more
enter-count waiting mid new turn more e f =
    omega (arith, ap length f, length-append mid (map Enter more), ap length e, length-append waiting (turn ∷ []), length-map more Enter)

pub search-popped : (sorts : List NamedSort) (visits : List Visit) (waiting rest : List Turn) (turn now : Turn) (order : List ℕ) → IsSearch sorts visits waiting order → waiting ≡ rest ++ turn ∷ [] → turn ≡ now
    → IsSearch sorts visits (rest ++ now ∷ []) order
search-popped sorts visits waiting rest turn now order search e is = subst (λ ws. IsSearch sorts visits ws order) (e ∙ ap (λ t. rest ++ t ∷ []) is) search

pub popped-inside : (sorts : List NamedSort) (visits : List Visit) (rest : List Turn) (now : Turn) (order : List ℕ) → IsSearch sorts visits (rest ++ now ∷ []) order → place_in_turn now < length sorts
popped-inside sorts visits rest now order search = search.inside (length rest) now (get-last rest now)
