-- Steps of the search along names for one that isn't declared.
use Rattle.std.proofs.Common.{◌≡◌, ℕ, zero, suc, ◌+◌, ◌-◌, ◌<◌, ◌≤◌, ◌⊎◌, inl, inr, Bool, true, false, List, [], ◌∷◌, ◌++◌, map, length, length-append, length-set, replicate, set, get_or, refl, sym, ap, ◌∙◌, arith, subst, Some, None}
use Rattle.std.proofs.lemmas.List.{get_or-set_same, get_or-set_other, length-replicate}
use Rattle.std.proofs.lemmas.Option.{slice_get_within}
use Rattle.std.specs.List.{list_all, slice_get}
use Rattle.colour_sorts.specs.declared.ordering.Turn.{Turn}
use Rattle.colour_sorts.specs.declared.ordering.Turn.TheVariants.{Enter}
use Rattle.colour_sorts.specs.declared.ordering.Visit.{Visit}
use Rattle.colour_sorts.specs.declared.ordering.Visit.TheVariants.{Fresh, Open, Placed}
use Rattle.net_model.specs.declared.sorts.NamedSort.{NamedSort}
use Rattle.net_model.specs.declared.sorts.SortTerm.{SortTerm}
use Rattle.net_model.specs.declared.sorts.SortTerm.TheVariants as term
use Rattle.net_model.proofs.Layers.{term-Named, term-Product}
use Rattle.colour_sorts.specs.Knowing.{HasUnknown, IsAwaited, IsKnowing, IsUnknown, is_declared, one_if_seen, seen_count}
use Rattle.net_model.specs.Ids.{ids_of}
use Rattle.colour_sorts.specs.Naming.{at_place, enough, is_known, is_known_within, names_pass, names_pass_part, place_of, term_at}
use Rattle.colour_sorts.specs.Searching.{Has, Leads, place_in_turn, places_named, visit_at}
use Rattle.colour_sorts.proofs.Has.{equal-or-not, get-back, get-cases, get-front, get-last, has-mapped, one-at, snoc-cases}
use Rattle.colour_sorts.proofs.Judged.{known-unknown}
use Rattle.colour_sorts.proofs.Named.{leads-inside, names-fail, told}
use Rattle.colour_sorts.proofs.PlacesIn.{none-is-some, slice_get-mapped, some-is-some}
use Rattle.colour_sorts.proofs.Products.{all-fails}

pub unknown-name : (ids : List (List ℕ)) (id : List ℕ) → place_of ids id ≡ None → HasUnknown ids (term.Named id)
unknown-name ids id none = λ test h. term-Named (names_pass_part test) id ∙ h id none

pub unknown-part : (ids : List (List ℕ)) (parts : List SortTerm) (i : ℕ) (part : SortTerm) → i < length parts → part ≡ get_or parts i part → HasUnknown ids part → HasUnknown ids (term.Product parts)
unknown-part ids parts i part within is known = λ test h. term-Product (names_pass_part test) parts ∙ all-fails (names_pass test) parts i part within (sym is) (known test h)

seen-set : (visits : List Visit) (i : ℕ) (v : Visit) → i < length visits → seen_count (set visits i v) + one_if_seen (visit_at visits i) ≡ seen_count visits + one_if_seen v
seen-set [] i v within = absurd (omega (arith, within))
seen-set (w ∷ visits) zero v within = omega arith
seen-set (w ∷ visits) (suc i) v within = let h = seen-set visits i v (omega (arith, within)) in omega (arith, h)

seen-le : (visits : List Visit) → seen_count visits ≤ length visits
seen-le [] = omega arith
seen-le (v ∷ visits) = by v (seen-le visits)
  where
    by : (v : Visit) → seen_count visits ≤ length visits → one_if_seen v + seen_count visits ≤ suc (length visits)
    by Fresh h = omega (arith, h)
    by Open h = omega (arith, h)
    by Placed h = omega (arith, h)

open-fresh : Open ≡ Fresh → ⊥
open-fresh e = grind arith

-- a step back along names
unknown-before : (sorts : List NamedSort) (steps from to : ℕ) → Leads sorts from to → IsUnknown sorts steps to → IsUnknown sorts (steps + 1) from
unknown-before sorts steps from to leads unknown = λ more.
    (let e : (steps + 1) + more ≡ suc (steps + more) = omega arith in
    ap (λ n. names_pass (is_known_within sorts n) (term_at sorts from)) e
    ∙ names-fail sorts from to (is_known_within sorts (suc (steps + more))) leads
    (λ id place. ap (at_place false (λ at. names_pass (is_known_within sorts (steps + more)) (term_at sorts at))) place ∙ unknown more))

-- the sort was seen already
pub knowing-skip : (sorts : List NamedSort) (visits : List Visit) (waiting : List Turn) (turn : Turn) (root : ℕ) → IsKnowing sorts visits (waiting ++ turn ∷ []) root
    → (visit_at visits (place_in_turn turn) ≡ Fresh → ⊥) → IsKnowing sorts visits waiting root
knowing-skip sorts visits waiting turn root known seen = record {
  as_long = known.as_long;
  inside = λ k t e. known.inside k t (get-front waiting (turn ∷ []) k t e);
  near = λ k t e. known.near k t (get-front waiting (turn ∷ []) k t e);
  declared = known.declared;
  closed = λ at to other leads fresh. still to fresh (known.closed at to other leads fresh);
  begun = λ fresh. still root fresh (known.begun fresh);
}
  where
    still : (to : ℕ) → visit_at visits to ≡ Fresh → IsAwaited (waiting ++ turn ∷ []) to → IsAwaited waiting to
    still to fresh (k, t, e, is) = by (snoc-cases waiting turn k t e)
      where
        by : ((k < length waiting) × (slice_get waiting k ≡ Some t)) ⊎ ((k ≡ length waiting) × (turn ≡ t)) → IsAwaited waiting to
        by (inl front) = (k, t, front.1, is)
        by (inr end) = absurd (seen (ap (visit_at visits) (ap place_in_turn end.1 ∙ is) ∙ fresh))

-- a sort is looked at
pub knowing-more : (sorts : List NamedSort) (visits : List Visit) (waiting : List Turn) (turn : Turn) (root : ℕ) → IsKnowing sorts visits (waiting ++ turn ∷ []) root
    → visit_at visits (place_in_turn turn) ≡ Fresh → names_pass (is_declared (ids_of sorts)) (term_at sorts (place_in_turn turn)) ≡ true
    → IsKnowing sorts (set visits (place_in_turn turn) Open) (waiting ++ map Enter (places_named (ids_of sorts) (term_at sorts (place_in_turn turn)))) root
knowing-more sorts visits waiting turn root known was declared = record {
  as_long = length-set visits top Open ∙ known.as_long;
  inside = λ k t e. inside k t (get-cases waiting (map Enter more) k t e);
  near = λ k t e. near k t (get-cases waiting (map Enter more) k t e);
  declared = λ at seen. each at seen (equal-or-not at top);
  closed = λ at to seen leads fresh. closed at to seen leads fresh (equal-or-not at top);
  begun = λ fresh. still root (not-top root fresh) (known.begun (old-fresh root fresh));
}
  where
    top : ℕ
    top = place_in_turn turn

    more : List ℕ
    more = places_named (ids_of sorts) (term_at sorts top)

    there : top < length visits
    there = omega (arith, known.inside (length waiting) turn (get-last waiting turn), known.as_long)

    same-visit : visit_at (set visits top Open) top ≡ Open
    same-visit = get_or-set_same visits top Open Fresh there

    count : seen_count (set visits top Open) ≡ seen_count visits + 1
    count = let h = seen-set visits top Open there in let z = ap one_if_seen was in omega (arith, h, z)

    not-top : (j : ℕ) → visit_at (set visits top Open) j ≡ Fresh → j ≡ top → ⊥
    not-top j is same = open-fresh (sym same-visit ∙ ap (visit_at (set visits top Open)) (sym same) ∙ is)

    old-fresh : (j : ℕ) → visit_at (set visits top Open) j ≡ Fresh → visit_at visits j ≡ Fresh
    old-fresh j is = sym (get_or-set_other visits top j Open Fresh (not-top j is)) ∙ is

    Stands : ℕ → Turn → Type 0
    Stands k t = ((k < length waiting) × (slice_get waiting k ≡ Some t)) ⊎ ((j : ℕ) × (k ≡ length waiting + j) × (slice_get (map Enter more) j ≡ Some t))

    inside : (k : ℕ) (t : Turn) → Stands k t → place_in_turn t < length sorts
    inside k t (inl front) = known.inside k t (get-front waiting (turn ∷ []) k t front.1)
    inside k t (inr (j, _, e)) = by (slice_get-mapped Enter more j t e)
      where
        by : (to : ℕ) × (slice_get more j ≡ Some to) × (Enter to ≡ t) → place_in_turn t < length sorts
        by (to, e, is) = subst (λ t. place_in_turn t < length sorts) is (leads-inside sorts top to (j, e))

    near : (k : ℕ) (t : Turn) → Stands k t → (m : ℕ) × (m ≤ seen_count (set visits top Open)) × ((steps : ℕ) → IsUnknown sorts steps (place_in_turn t) → IsUnknown sorts (steps + m) root)
    near k t (inl front) = by (known.near k t (get-front waiting (turn ∷ []) k t front.1))
      where
        by : (m : ℕ) × (m ≤ seen_count visits) × ((steps : ℕ) → IsUnknown sorts steps (place_in_turn t) → IsUnknown sorts (steps + m) root)
            → (m : ℕ) × (m ≤ seen_count (set visits top Open)) × ((steps : ℕ) → IsUnknown sorts steps (place_in_turn t) → IsUnknown sorts (steps + m) root)
        by (m, less, far) = (m, omega (arith, less, count), far)
    near k t (inr (j, _, e)) = by (slice_get-mapped Enter more j t e) (known.near (length waiting) turn (get-last waiting turn))
      where
        by : (to : ℕ) × (slice_get more j ≡ Some to) × (Enter to ≡ t) → (m : ℕ) × (m ≤ seen_count visits) × ((steps : ℕ) → IsUnknown sorts steps top → IsUnknown sorts (steps + m) root)
            → (m : ℕ) × (m ≤ seen_count (set visits top Open)) × ((steps : ℕ) → IsUnknown sorts steps (place_in_turn t) → IsUnknown sorts (steps + m) root)
        by (to, e, is) (m, less, far) = (
          m + 1,
          omega (arith, less, count),
          λ steps unknown.
              (let s : (steps + 1) + m ≡ steps + (m + 1) = omega arith in
              subst (λ n. IsUnknown sorts n root) s
              (far (steps + 1) (unknown-before sorts steps top to (j, e) (subst (λ t. IsUnknown sorts steps (place_in_turn t)) (sym is) unknown)))),
        )

    still : (to : ℕ) → (to ≡ top → ⊥) → IsAwaited (waiting ++ turn ∷ []) to → IsAwaited (waiting ++ map Enter more) to
    still to other (k, t, e, is) = by (snoc-cases waiting turn k t e)
      where
        by : ((k < length waiting) × (slice_get waiting k ≡ Some t)) ⊎ ((k ≡ length waiting) × (turn ≡ t)) → IsAwaited (waiting ++ map Enter more) to
        by (inl front) = (k, t, get-front waiting (map Enter more) k t front.1, is)
        by (inr end) = absurd (other (sym (ap place_in_turn end.1 ∙ is)))

    old-seen : (at : ℕ) → (at ≡ top → ⊥) → (visit_at (set visits top Open) at ≡ Fresh → ⊥) → visit_at visits at ≡ Fresh → ⊥
    old-seen at other seen fresh = seen (get_or-set_other visits top at Open Fresh other ∙ fresh)

    each : (at : ℕ) → (visit_at (set visits top Open) at ≡ Fresh → ⊥) → ((at ≡ top) ⊎ (at ≡ top → ⊥)) → names_pass (is_declared (ids_of sorts)) (term_at sorts at) ≡ true
    each at seen (inl same) = ap (λ a. names_pass (is_declared (ids_of sorts)) (term_at sorts a)) same ∙ declared
    each at seen (inr other) = known.declared at (old-seen at other seen)

    closed : (at to : ℕ) → (visit_at (set visits top Open) at ≡ Fresh → ⊥) → Leads sorts at to → visit_at (set visits top Open) to ≡ Fresh → ((at ≡ top) ⊎ (at ≡ top → ⊥)) → IsAwaited (waiting ++ map Enter more) to
    closed at to seen leads fresh (inl same) = by (has-mapped Enter more to (subst (λ a. Leads sorts a to) same leads))
      where
        by : Has (map Enter more) (Enter to) → IsAwaited (waiting ++ map Enter more) to
        by (k, e) = (length waiting + k, Enter to, get-back waiting (map Enter more) k (Enter to) e, refl)
    closed at to seen leads fresh (inr other) = still to (not-top to fresh) (known.closed at to (old-seen at other seen) leads (old-fresh to fresh))

-- a name that isn't declared is found
pub knowing-fails : (sorts : List NamedSort) (visits : List Visit) (waiting : List Turn) (turn : Turn) (root : ℕ) → IsKnowing sorts visits (waiting ++ turn ∷ []) root
    → HasUnknown (ids_of sorts) (term_at sorts (place_in_turn turn)) → is_known sorts (term_at sorts root) ≡ false
knowing-fails sorts visits waiting turn root known unknown = by (known.near (length waiting) turn (get-last waiting turn))
  where
    here : IsUnknown sorts 0 (place_in_turn turn)
    here = λ more. unknown (is_known_within sorts (0 + more)) (λ id none. known-unknown sorts (0 + more) id none)

    by : (m : ℕ) × (m ≤ seen_count visits) × ((steps : ℕ) → IsUnknown sorts steps (place_in_turn turn) → IsUnknown sorts (steps + m) root) → is_known sorts (term_at sorts root) ≡ false
    by (m, less, far) =
        let e : (0 + m) + (enough sorts - m) ≡ enough sorts = omega (arith, less, seen-le visits, known.as_long) in
        ap (λ n. names_pass (is_known_within sorts n) (term_at sorts root)) (sym e) ∙ far 0 here (enough sorts - m)

-- nothing waits
pub knowing-end : (sorts : List NamedSort) (visits : List Visit) (root : ℕ) → IsKnowing sorts visits [] root → is_known sorts (term_at sorts root) ≡ true
knowing-end sorts visits root known = all (enough sorts) root (λ fresh. nowhere root (known.begun fresh))
  where
    nowhere : (to : ℕ) → IsAwaited [] to → ⊥
    nowhere to (k, t, e, _) = none-is-some t e

    all : (steps at : ℕ) → (visit_at visits at ≡ Fresh → ⊥) → names_pass (is_known_within sorts steps) (term_at sorts at) ≡ true
    all zero at seen = known.declared at seen
    all (suc steps) at seen = (told (ids_of sorts) (term_at sorts at)).passes (is_known_within sorts (suc steps)) (known.declared at seen)
        (λ to id leads place. ap (at_place false (λ at. names_pass (is_known_within sorts steps) (term_at sorts at))) place ∙ all steps to (λ fresh. nowhere to (known.closed at to seen leads fresh)))

-- where nothing was seen
fresh-visit : (n j : ℕ) → visit_at (replicate n Fresh) j ≡ Fresh
fresh-visit zero j = refl
fresh-visit (suc n) zero = refl
fresh-visit (suc n) (suc j) = fresh-visit n j

pub knowing-start : (sorts : List NamedSort) (visits : List Visit) (waiting : List Turn) (root : ℕ) → visits ≡ replicate (length sorts) Fresh → root < length sorts → waiting ≡ Enter root ∷ []
    → IsKnowing sorts visits waiting root
knowing-start sorts visits waiting root is within one = subst (λ vs. IsKnowing sorts vs waiting root) (sym is) (subst (λ ws. IsKnowing sorts (replicate (length sorts) Fresh) ws root) (sym one) (record {
  as_long = length-replicate (length sorts) Fresh;
  inside = λ k t e. subst (λ t. place_in_turn t < length sorts) (one-at (Enter root) t k e).1 within;
  near = λ k t e. (
    0,
    omega arith,
    λ steps unknown. (let plain : steps ≡ steps + 0 = omega arith in
        subst (λ n. IsUnknown sorts n root) plain (subst (IsUnknown sorts steps) (sym (ap place_in_turn (one-at (Enter root) t k e).1)) unknown)),
  );
  declared = λ at seen. absurd (seen (fresh-visit (length sorts) at));
  closed = λ at to seen. absurd (seen (fresh-visit (length sorts) at));
  begun = λ fresh. (0, Enter root, refl, refl);
}))

-- the same by the position of the sort
pub look-more : (sorts : List NamedSort) (ids : List (List ℕ)) (visits : List Visit) (waiting new : List Turn) (turn : Turn) (root at : ℕ) (t : SortTerm) → at ≡ place_in_turn turn → ids ≡ ids_of sorts
    → t ≡ term_at sorts at → visit_at visits at ≡ Fresh → names_pass (is_declared ids) t ≡ true → new ≡ waiting ++ map Enter (places_named ids t)
    → IsKnowing sorts visits (waiting ++ turn ∷ []) root → IsKnowing sorts (set visits at Open) new root
look-more sorts ids visits waiting new turn root at t e same is fresh declared items known =
    subst (λ a. IsKnowing sorts (set visits a Open) new root) (sym e)
    (subst (λ ws. IsKnowing sorts (set visits (place_in_turn turn) Open) ws root) (sym (items ∙ ap (λ ids. waiting ++ map Enter (places_named ids t)) same ∙ ap (λ t. waiting ++ map Enter (places_named (ids_of sorts) t)) there))
    (knowing-more sorts visits waiting turn root known (ap (visit_at visits) (sym e) ∙ fresh)
    (ap (names_pass (is_declared (ids_of sorts))) (sym there) ∙ ap (λ ids. names_pass (is_declared ids) t) (sym same) ∙ declared)))
  where
    there : t ≡ term_at sorts (place_in_turn turn)
    there = is ∙ ap (term_at sorts) e

pub look-fails : (sorts : List NamedSort) (ids : List (List ℕ)) (visits : List Visit) (waiting : List Turn) (turn : Turn) (root at : ℕ) (t : SortTerm) → at ≡ place_in_turn turn → ids ≡ ids_of sorts
    → t ≡ term_at sorts at → HasUnknown ids t → IsKnowing sorts visits (waiting ++ turn ∷ []) root → is_known sorts (term_at sorts root) ≡ false
look-fails sorts ids visits waiting turn root at t e same is unknown known =
    knowing-fails sorts visits waiting turn root known (subst (HasUnknown (ids_of sorts)) (is ∙ ap (term_at sorts) e) (subst (λ ids. HasUnknown ids t) same unknown))

pub look-skip : (sorts : List NamedSort) (visits : List Visit) (waiting : List Turn) (turn : Turn) (root at : ℕ) → at ≡ place_in_turn turn → (visit_at visits at ≡ Fresh → ⊥)
    → IsKnowing sorts visits (waiting ++ turn ∷ []) root → IsKnowing sorts visits waiting root
look-skip sorts visits waiting turn root at e seen known = knowing-skip sorts visits waiting turn root known (λ fresh. seen (ap (visit_at visits) e ∙ fresh))
