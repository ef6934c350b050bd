-- Named sorts as they are judged.
use Rattle.std.proofs.Common.{◌≡◌, ℕ, zero, suc, ◌+◌, ◌<◌, ◌≤◌, ◌⊎◌, inl, inr, Bool, true, false, List, [], ◌∷◌, length, length-set, set, get_or, refl, sym, ap, ◌∙◌, arith, subst, Some}
use Rattle.std.proofs.lemmas.List.{get_or-map, get_or-set_same, get_or-set_other}
use Rattle.std.proofs.lemmas.Option.{get_or_from_slice_get, slice_get_within}
use Rattle.std.specs.List.{slice_get}
use Rattle.colour_sorts.specs.declared.facts.Facts.{Facts}
use Rattle.colour_sorts.specs.declared.facts.Mark.{Mark}
use Rattle.colour_sorts.specs.declared.facts.Mark.TheVariants.{Done, Fresh}
use Rattle.net_model.specs.declared.sorts.NamedSort.{NamedSort}
use Rattle.net_model.specs.declared.sorts.SortTerm.TheVariants as term
use Rattle.colour_sorts.specs.Colours.{constants_at}
use Rattle.net_model.specs.Ids.{constants_in, constants_of, ids_of}
use Rattle.colour_sorts.specs.Naming.{at_place, ends_within, is_known_within, names_pass, place_of, sort_by, sort_within, term_at}
use Rattle.colour_sorts.specs.Judging.{AreCapped, IsFacts, IsJudged, IsSettled, IsWaiting}
use Rattle.colour_sorts.specs.Searching.{Has, IsEndless, IsOrder, Leads, places_named}
use Rattle.colour_sorts.specs.Walking.{AreMarked, IsDoneAt, IsMarkedAt, KeepsDone, done_count, mark_at, one_if_done}
use Rattle.colour_sorts.proofs.Has.{equal-or-not, front-or-end, set-cases}
use Rattle.colour_sorts.proofs.PlacesIn.{get-at}
use Rattle.colour_sorts.proofs.Searched.{endless-before}

-- counts of marks
count-set : (xs : List Mark) (i : ℕ) (y : Mark) → i < length xs → done_count (set xs i y) + one_if_done (mark_at xs i) ≡ done_count xs + one_if_done y
count-set [] i y within = absurd (omega (arith, within))
count-set (x ∷ xs) zero y within = omega arith
count-set (x ∷ xs) (suc i) y within = let h = count-set xs i y (omega (arith, within)) in omega (arith, h)

facts_in : Mark → Facts → Facts
facts_in (Done f) d = f
facts_in _ d = d

pub done-is : (f g : Facts) → Done f ≡ Done g → f ≡ g
unfolding facts_in
done-is f g e = ap (λ m. facts_in m f) e

-- what is known of a term is known of the name of its named sort with one step more
settled-by : (sorts : List NamedSort) (steps at : ℕ) (id : List ℕ) (f : Facts) → place_of (ids_of sorts) id ≡ Some at
    → IsJudged sorts steps at (term_at sorts at) f → IsSettled sorts (suc steps) id f
settled-by sorts steps at id f e known = record {
  ends = ap (at_place true (λ at. names_pass (ends_within sorts steps) (term_at sorts at))) e ∙ known.ends;
  known = known.known ∙ sym (ap (at_place false (λ at. names_pass (is_known_within sorts steps) (term_at sorts at))) e);
  tests = subst (λ s. IsFacts (constants_of sorts) s f) (sym (ap (at_place _ (λ at. sort_by (sort_within sorts steps) at (term_at sorts at))) e)) known.tests;
}

pub marked-more : (sorts : List NamedSort) (marks : List Mark) (top : ℕ) (f : Facts) → AreMarked sorts marks → top < length marks
    → one_if_done (mark_at marks top) ≡ 0 → AreCapped f → ((steps : ℕ) → done_count marks < steps → IsJudged sorts steps top (term_at sorts top) f)
    → AreMarked sorts (set marks top (Done f))
marked-more sorts marks top f marked inside before small judged = record {
  as_long = length-set marks top (Done f) ∙ marked.as_long;
  capped = λ at g e. capped g (set-cases marks top (Done f) at (Done g) inside e) (marked.capped at g);
  settled = λ steps more id at g place e. settled steps more id at g place (set-cases marks top (Done f) at (Done g) inside e);
}
  where
    capped : (g : Facts) {at : ℕ} → ((at ≡ top) × (Done f ≡ Done g)) ⊎ ((at ≡ top → ⊥) × (slice_get marks at ≡ Some (Done g))) → (slice_get marks at ≡ Some (Done g) → AreCapped g) → AreCapped g
    capped g (inl same) old = subst AreCapped (done-is f g same.1) small
    capped g (inr other) old = old other.1

    settled : (steps : ℕ) → done_count (set marks top (Done f)) < steps → (id : List ℕ) (at : ℕ) (g : Facts) → place_of (ids_of sorts) id ≡ Some at
        → ((at ≡ top) × (Done f ≡ Done g)) ⊎ ((at ≡ top → ⊥) × (slice_get marks at ≡ Some (Done g))) → IsSettled sorts steps id g
    settled zero more id at g place h = absurd (omega (arith, more))
    settled (suc steps) more id at g place (inl same) =
        let count = count-set marks top (Done f) inside in
        subst (IsSettled sorts (suc steps) id) (done-is f g same.1)
        (settled-by sorts steps top id f (place ∙ ap Some same.0) (judged steps (omega (arith, more, count, before))))
    settled (suc steps) more id at g place (inr other) =
        let count = count-set marks top (Done f) inside in
        marked.settled (suc steps) (omega (arith, more, count, before)) id at g place other.1

-- the term and the constants at a position
pub term-at : (sorts : List NamedSort) (at : ℕ) (d : NamedSort) → at < length sorts → term_at sorts at ≡ (get_or sorts at d).sort
term-at sorts at d within = get_or-map (λ s. s.sort) sorts at d term.Dot within

pub constants-at : (sorts : List NamedSort) (at : ℕ) (d : NamedSort) → at < length sorts → constants_at (constants_of sorts) at ≡ constants_in (get_or sorts at d).sort
constants-at sorts at d within = get_or-map (λ s. constants_in s.sort) sorts at d [] within

pub not-done-zero : (m : Mark) → ((f : Facts) → m ≡ Done f → ⊥) → one_if_done m ≡ 0
not-done-zero Fresh b = refl
not-done-zero (Done f) b = absurd (b f refl)

-- a mark that isn't done is set
pub keeps-set : (marks : List Mark) (i : ℕ) (y : Mark) → ((f : Facts) → mark_at marks i ≡ Done f → ⊥) → KeepsDone marks (set marks i y)
keeps-set marks i y open_ = λ j f e. by j f e (equal-or-not j i)
  where
    by : (j : ℕ) (f : Facts) → slice_get marks j ≡ Some (Done f) → ((j ≡ i) ⊎ (j ≡ i → ⊥)) → slice_get (set marks i y) j ≡ Some (Done f)
    by j f e (inl same) = absurd (open_ f (ap (mark_at marks) (sym same) ∙ get_or_from_slice_get marks j (Done f) Fresh e))
    by j f e (inr other) = get-at (set marks i y) j (Done f) (Done f) (omega (arith, slice_get_within marks j (Done f) e, length-set marks i y))
        (get_or-set_other marks i j y (Done f) other ∙ get_or_from_slice_get marks j (Done f) (Done f) e)

pub marked-keeps : (sorts : List NamedSort) (old now : List Mark) (at : ℕ) → KeepsDone old now → IsMarkedAt sorts old at → IsMarkedAt sorts now at
marked-keeps sorts old now at keeps (inl (f, e)) = inl (f, keeps at f e)
marked-keeps sorts old now at keeps (inr endless) = inr endless

-- a sort that waits for one that isn't done
pub waits-endless : (sorts : List NamedSort) (ids : List (List ℕ)) (marks : List Mark) (top at : ℕ) → ids ≡ ids_of sorts → IsWaiting ids marks (term_at sorts top) at
    → ((to : ℕ) → Leads sorts top to → IsMarkedAt sorts marks to) → IsEndless sorts top
waits-endless sorts ids marks top at e waiting behind = by (behind at leads)
  where
    leads : Leads sorts top at
    leads = subst (λ ids. Has (places_named ids (term_at sorts top)) at) e waiting.named

    by : IsMarkedAt sorts marks at → IsEndless sorts top
    by (inl (f, done)) = absurd (waiting.open_ f done)
    by (inr endless) = endless-before sorts top at leads endless

-- in the order all are marked that a sort names
pub behind-marked : (sorts : List NamedSort) (order : List ℕ) (marks : List Mark) (i at : ℕ) → IsOrder sorts order → slice_get order i ≡ Some at
    → ((k to : ℕ) → k < i → slice_get order k ≡ Some to → IsMarkedAt sorts marks to) → (to : ℕ) → Leads sorts at to → IsMarkedAt sorts marks to
behind-marked sorts order marks i at ordered here before to leads = by (ordered.behind i at to here leads)
  where
    by : ((j : ℕ) × (j < i) × (slice_get order j ≡ Some to)) ⊎ IsEndless sorts to → IsMarkedAt sorts marks to
    by (inl (j, less, e)) = before j to less e
    by (inr endless) = inr endless

-- one position of the order more
pub all-marked-more : (sorts : List NamedSort) (order : List ℕ) (old now : List Mark) (i : ℕ) → KeepsDone old now → ((k at : ℕ) → k < i → slice_get order k ≡ Some at → IsMarkedAt sorts old at)
    → IsMarkedAt sorts now (get_or order i 0) → (k at : ℕ) → k < i + 1 → slice_get order k ≡ Some at → IsMarkedAt sorts now at
all-marked-more sorts order old now i keeps before here k at less e = by (front-or-end k i less)
  where
    by : ((k < i) ⊎ (k ≡ i)) → IsMarkedAt sorts now at
    by (inl front) = marked-keeps sorts old now at keeps (before k at front e)
    by (inr end) = subst (IsMarkedAt sorts now) (ap (λ j. get_or order j 0) (sym end) ∙ get_or_from_slice_get order k at 0 e) here
