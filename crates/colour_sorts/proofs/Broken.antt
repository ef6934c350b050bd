-- The first rule that a named sort breaks, from what is kept of it.
use Rattle.std.proofs.Common.{◌≡◌, ℕ, zero, suc, ◌+◌, ◌<◌, ◌≤◌, ◌⊎◌, inl, inr, Bool, true, false, not, cond, List, [], ◌∷◌, length, drop, get_or, replicate, refl, sym, ap, ◌∙◌, arith, subst, Some, None, Option}
use Rattle.std.proofs.lemmas.List.{drop_all, get_or-map, length-map, length-replicate}
use Rattle.std.proofs.Common.{drop-cons}
use Rattle.std.proofs.lemmas.Option.{get_or_from_slice_get}
use Rattle.std.specs.List.{IsDistinct, slice_get}
use Rattle.colour_sorts.specs.Domain.{before, fault_at, sort_fault_from}
use Rattle.std.specs.Str.{bytes_eq}
use Rattle.colour_sorts.specs.declared.facts.Facts.{Facts}
use Rattle.colour_sorts.specs.declared.facts.Mark.{Mark}
use Rattle.colour_sorts.specs.declared.facts.Mark.TheVariants.{Done, Fresh}
use Rattle.colour_sorts.specs.declared.rules.Rule.{Rule}
use Rattle.colour_sorts.specs.declared.rules.Rule.TheVariants as rule
use Rattle.net_model.specs.declared.sorts.NamedSort.{NamedSort}
use Rattle.net_model.specs.declared.sorts.SortTerm.TheVariants as term
use Rattle.colour_sorts.specs.Limits.{broken_in}
use Rattle.net_model.specs.Ids.{constants_of, ids_of}
use Rattle.colour_sorts.specs.Naming.{at_place, broken_rule, ends_within, enough, has_end, is_known, is_known_within, names_pass, place_of, sort_by, sort_of, sort_within, term_at}
use Rattle.colour_sorts.specs.declared.sorts.Sort.{Sort}
use Rattle.std.proofs.lemmas.Bool.{false≢true}
use Rattle.colour_sorts.specs.Judging.{IsFacts}
use Rattle.colour_sorts.proofs.Has.{front-or-end}
use Rattle.colour_sorts.specs.Walking.{AreMarked, AreSound, IsDoneAt, IsMarkedAt, done_count, mark_at, one_if_done}
use Rattle.std.specs.Prelude.{IfNone}
use Rattle.colour_sorts.proofs.Constants.{number_in-only}
use Rattle.colour_sorts.proofs.PlacesIn.{get-at}

pub count-le : (marks : List Mark) → done_count marks ≤ length marks
count-le [] = omega arith
count-le (m ∷ ms) = by m (count-le ms)
  where
    by : (m : Mark) → done_count ms ≤ length ms → one_if_done m + done_count ms ≤ suc (length ms)
    by Fresh h = omega (arith, h)
    by (Done f) h = omega (arith, h)

-- the id at a position leads back to it
pub place-back : (sorts : List NamedSort) (at : ℕ) → IsDistinct bytes_eq (ids_of sorts) → at < length sorts → place_of (ids_of sorts) (get_or (ids_of sorts) at []) ≡ Some at
place-back sorts at distinct within =
    number_in-only (ids_of sorts) (get_or (ids_of sorts) at []) at distinct
    (get-at (ids_of sorts) at (get_or (ids_of sorts) at []) [] (omega (arith, within, length-map sorts (λ s. s.id))) refl)

pub record IsDone (sorts : List NamedSort) (at : ℕ) (f : Facts) : Type 0 where
  pub ends : has_end sorts (term_at sorts at) ≡ true
  pub known : f.is_known ≡ is_known sorts (term_at sorts at)
  pub tests : IsFacts (constants_of sorts) (sort_of sorts at (term_at sorts at)) f

pub done-facts : (sorts : List NamedSort) (marks : List Mark) (at : ℕ) (f : Facts) → IsDistinct bytes_eq (ids_of sorts) → AreMarked sorts marks → at < length sorts
    → mark_at marks at ≡ Done f → IsDone sorts at f
done-facts sorts marks at f distinct walk within done =
    let id = get_or (ids_of sorts) at [] in
    let place = place-back sorts at distinct within in
    let known = walk.settled (suc (enough sorts)) (omega (arith, count-le marks, walk.as_long)) id at f place (get-at marks at (Done f) Fresh (omega (arith, within, walk.as_long)) done) in
    record {
      ends = sym (ap (at_place true (λ at. names_pass (ends_within sorts (enough sorts)) (term_at sorts at))) place) ∙ known.ends;
      known = known.known ∙ ap (at_place false (λ at. names_pass (is_known_within sorts (enough sorts)) (term_at sorts at))) place;
      tests = subst (λ s. IsFacts (constants_of sorts) s f) (ap (at_place _ (λ at. sort_by (sort_within sorts (enough sorts)) at (term_at sorts at))) place) known.tests;
    }

pub rule-known : (sorts : List NamedSort) (at : ℕ) (f : Facts) (broken : Option Rule) → IsDone sorts at f → f.is_known ≡ true
    → broken ≡ broken_in (constants_of sorts) (sort_of sorts at (term_at sorts at)) → broken ≡ broken_rule sorts at (term_at sorts at)
rule-known sorts at f broken done known e = by (is_known sorts (term_at sorts at)) (has_end sorts (term_at sorts at)) (sym done.known ∙ known) done.ends e
  where
    by : (k h : Bool) {rest : Option Rule} → k ≡ true → h ≡ true → broken ≡ rest → broken ≡ cond (not k) (Some rule.UnknownSort) (cond (not h) (Some rule.SortCircle) rest)
    by k h a b e = e ∙ grind (arith, a, b)

pub rule-unknown : (sorts : List NamedSort) (at : ℕ) → is_known sorts (term_at sorts at) ≡ false → Some rule.UnknownSort ≡ broken_rule sorts at (term_at sorts at)
rule-unknown sorts at e = sym (ap (λ k. cond (not k) (Some rule.UnknownSort) (cond (not (has_end sorts (term_at sorts at))) (Some rule.SortCircle) (broken_in (constants_of sorts) (sort_of sorts at (term_at sorts at))))) e)

pub rule-circle : (sorts : List NamedSort) (at : ℕ) → is_known sorts (term_at sorts at) ≡ true → has_end sorts (term_at sorts at) ≡ false → Some rule.SortCircle ≡ broken_rule sorts at (term_at sorts at)
rule-circle sorts at known ends =
    sym (ap (λ k. cond (not k) (Some rule.UnknownSort) (cond (not (has_end sorts (term_at sorts at))) (Some rule.SortCircle) (broken_in (constants_of sorts) (sort_of sorts at (term_at sorts at))))) known
    ∙ ap (λ h. cond (not h) (Some rule.SortCircle) (broken_in (constants_of sorts) (sort_of sorts at (term_at sorts at)))) ends)

fresh-mark : (n j : ℕ) → mark_at (replicate n Fresh) j ≡ Fresh
fresh-mark zero j = refl
fresh-mark (suc n) zero = refl
fresh-mark (suc n) (suc j) = fresh-mark n j

fresh-get : (n j : ℕ) (m : Mark) → slice_get (replicate n Fresh) j ≡ Some m → m ≡ Fresh
fresh-get n j m e = sym (get_or_from_slice_get (replicate n Fresh) j m Fresh e) ∙ fresh-mark n j

done-fresh : (f : Facts) → Done f ≡ Fresh → ⊥
done-fresh f e = grind arith

-- where nothing was looked at
pub marked-none : (sorts : List NamedSort) (marks : List Mark) → marks ≡ replicate (length sorts) Fresh → AreMarked sorts marks
marked-none sorts marks is = subst (AreMarked sorts) (sym is) (record {
  as_long = length-replicate (length sorts) Fresh;
  capped = λ at f e. absurd (done-fresh f (fresh-get (length sorts) at (Done f) e));
  settled = λ steps more id at f place e. absurd (done-fresh f (fresh-get (length sorts) at (Done f) e));
})

-- the first fault among the named sorts from one on
pub nothing : NamedSort
nothing = record { id = []; sort = term.Dot }

faults-from : (sorts : List NamedSort) (at : ℕ) (broken : Option Rule) → at < length sorts → broken ≡ broken_rule sorts at (term_at sorts at)
    → sort_fault_from sorts at (drop at sorts) ≡ before (fault_at (get_or (ids_of sorts) at []) broken) (sort_fault_from sorts (at + 1) (drop (at + 1) sorts))
faults-from sorts at broken within e =
    let s = get_or sorts at nothing in
    let first : drop at sorts ≡ s ∷ drop (at + 1) sorts = drop-cons sorts at nothing within ∙ (let n : suc at ≡ at + 1 = omega arith in ap (λ n. s ∷ drop n sorts) n) in
    let id : s.id ≡ get_or (ids_of sorts) at [] = sym (get_or-map (λ s. s.id) sorts at nothing [] within) in
    let here : broken_rule sorts at s.sort ≡ broken = ap (broken_rule sorts at) (sym (get_or-map (λ s. s.sort) sorts at nothing term.Dot within)) ∙ sym e in
    ap (sort_fault_from sorts at) first
    ∙ ap (λ r. before (fault_at s.id r) (sort_fault_from sorts (at + 1) (drop (at + 1) sorts))) here
    ∙ ap (λ i. before (fault_at i broken) (sort_fault_from sorts (at + 1) (drop (at + 1) sorts))) id

pub fault-here : (sorts : List NamedSort) (at : ℕ) (broken : Rule) → at < length sorts → Some broken ≡ broken_rule sorts at (term_at sorts at)
    → sort_fault_from sorts at (drop at sorts) ≡ Some (get_or (ids_of sorts) at [], broken)
fault-here sorts at broken within e = faults-from sorts at (Some broken) within e

pub fault-later : (sorts : List NamedSort) (at : ℕ) → at < length sorts → None ≡ broken_rule sorts at (term_at sorts at)
    → sort_fault_from sorts at (drop at sorts) ≡ sort_fault_from sorts (at + 1) (drop (at + 1) sorts)
fault-later sorts at within e = faults-from sorts at None within e

pub fault-none : (sorts : List NamedSort) (at : ℕ) → length sorts ≤ at → sort_fault_from sorts at (drop at sorts) ≡ None
fault-none sorts at end = ap (sort_fault_from sorts at) (drop_all at sorts end)

pub sound-more : (sorts : List NamedSort) (marks : List Mark) (at : ℕ) → IsDoneAt marks at → broken_rule sorts at (term_at sorts at) ≡ None
    → AreSound sorts marks at → AreSound sorts marks (at + 1)
sound-more sorts marks at done rule before = λ j within. by j (front-or-end j at within)
  where
    by : (j : ℕ) → ((j < at) ⊎ (j ≡ at)) → IsDoneAt marks j × (broken_rule sorts j (term_at sorts j) ≡ None)
    by j (inl front) = before j front
    by j (inr end) = subst (λ k. IsDoneAt marks k × (broken_rule sorts k (term_at sorts k) ≡ None)) (sym end) (done, rule)

-- where none breaks a rule, no names lead into a circle
pub sound-ends : (sorts : List NamedSort) (marks : List Mark) → IsDistinct bytes_eq (ids_of sorts) → AreMarked sorts marks → AreSound sorts marks (length sorts)
    → (at : ℕ) → at < length sorts → has_end sorts (term_at sorts at) ≡ true
sound-ends sorts marks distinct marked sound at within =
    let done = (sound at within).0 in
    (done-facts sorts marks at done.0 distinct marked within (get_or_from_slice_get marks at (Done done.0) Fresh done.1)).ends

-- a sort that isn't done leads into a circle
pub circle-here : (sorts : List NamedSort) (marks : List Mark) (at : ℕ) → IsMarkedAt sorts marks at → mark_at marks at ≡ Fresh → has_end sorts (term_at sorts at) ≡ false
circle-here sorts marks at (inl (f, done)) fresh = absurd (done-fresh f (sym (get_or_from_slice_get marks at (Done f) Fresh done) ∙ fresh))
circle-here sorts marks at (inr endless) fresh = endless (enough sorts)

pub if-none : {X : Type 0} (o : Option X) {P : Type 0} → P → IfNone o P
if-none None h = h
if-none (Some x) h = tt
