-- Laws of the search for the first transition that fails.
use Rattle.std.proofs.Common.{◌≡◌, ◌≢◌, ℕ, zero, suc, ◌+◌, ◌<◌, ◌≤◌, Bool, true, false, cond, ◌||◌, List, [], ◌∷◌, ◌⊎◌, inl, inr, Some, Result, Ok, Err, length, map, take, drop, get_or, replicate, ℤ, pos, ◌+ℤ◌, ◌*ℤ◌, refl, sym, ◌∙◌, ap, subst, arith}
use Rattle.std.specs.Prelude.{All, Contains, IfOk, bytes_eq, slice_set}
use Rattle.std.specs.List.{AllByRecursion}
use Rattle.std.specs.Cmp.Lexicographic.{bytes_decides}
use Rattle.std.proofs.lemmas.Bool.{or_cases}
use Rattle.std.proofs.lemmas.Int.{ints}
use Rattle.std.proofs.lemmas.List.{drop_more, ext_get_or, get_or-map, get_or-replicate, get_or-set_other, get_or-set_same, length-map, length-replicate}
use Rattle.std.proofs.Math.Bool.{or-true}
use Rattle.std.proofs.Math.Seq.{take-length}
use Rattle.std.proofs.lemmas.List.Elements.{All-contains, All-more, All-weaker, recursion_from_All}
use Rattle.std.proofs.lemmas.List.Folds.{list_any_more}
use Rattle.std.proofs.Math.ListN.{drop_of_length-le}
use Rattle.name_tables.specs.Numbering.{number_in}
use Rattle.wide_sums.specs.Total.{Total, joined, total_of, with_term, zero_total}
use Rattle.wide_sums.specs.declared.rows.Cell.{Cell}
use Rattle.wide_sums.proofs.Totals.{same_total, total_of-append}
use Rattle.pt_net.specs.declared.instances.Instance.{Instance}
use Rattle.pt_net.specs.Markings.{IsInRange}
use Rattle.pt_net.specs.Systems.{NetSystem, instance_at}
use Rattle.plain_model.specs.declared.certificates.Weight.{Weight}
use Rattle.plain_model.specs.declared.verdicts.Check.{Check}
use Rattle.plain_model.specs.declared.verdicts.Check.TheVariants as check
use Rattle.plain_model.specs.declared.verdicts.Spot.TheVariants.{Step}
use Rattle.plain_model.specs.declared.verdicts.Judged.{Judged}
use Rattle.plain_model.specs.declared.verdicts.Judged.TheVariants.{Shown}
use Rattle.plain_model.specs.Forms.{weight_on}
use Rattle.plain_model.specs.Obligations.{is_true}
use Rattle.plain_model.specs.Plain.{AreDistinct}
use Rattle.plain_judge.specs.Cells.{cell_terms, keeps_total, signed}
use Rattle.plain_judge.specs.declared.incidences.Incidence.{Incidence}
use Rattle.plain_judge.specs.Incidences.{AreIncidences, ListsRow, incidence}
use Rattle.plain_judge.specs.Judging.{instance_check, judged_rows, row_checks, then_judged}
use Rattle.plain_judge.specs.Searching.{IsFirstFailing, IsFirstMarked, KeepAtPlaces, is_weighed, keeps}
use Rattle.plain_judge.proofs.Order.{cells_check-counts}
use Rattle.plain_judge.proofs.RaisedPlaces.{other_bytes}
use Rattle.plain_rows.proofs.Distinct.{named, same_place}

-- one more incidence was visited
pub tested_more : (ys : List ℤ) (system : NetSystem) (incidences : List Incidence) (i : ℕ) (item : Incidence) (old new : ℕ) → i < length incidences → item ≡ get_or incidences i item → new ≤ old
    → (item.transition < new → keeps ys system item.transition ≡ true)
    → All (λ one. one.transition < old → keeps ys system one.transition ≡ true) (take i incidences)
    → All (λ one. one.transition < new → keeps ys system one.transition ≡ true) (take (i + 1) incidences)
tested_more ys system incidences i item old new within is lower tested all =
    All-more (λ (one : Incidence). one.transition < new → keeps ys system one.transition ≡ true) incidences i item within
    (All-weaker (λ (one : Incidence). one.transition < old → keeps ys system one.transition ≡ true) (λ (one : Incidence). one.transition < new → keeps ys system one.transition ≡ true)
    (λ one kept below. kept (omega (arith, below, lower))) (take i incidences) all)
    (subst (λ (one : Incidence). one.transition < new → keeps ys system one.transition ≡ true) is tested)

-- the transitions at the place of one more weight were visited
pub places_more : (names : List (List ℕ)) (weights : List Weight) (i : ℕ) (weight : Weight) (incidences here : List Incidence) (ys : List ℤ) (system : NetSystem) (place old new : ℕ)
    → AreDistinct names → i < length weights → weight ≡ get_or weights i weight → number_in names weight.place ≡ Some place → new ≤ old
    → ((t : ℕ) → Contains incidences (incidence place t) → Contains here (incidence place t))
    → All (λ one. one.transition < new → keeps ys system one.transition ≡ true) here
    → KeepAtPlaces names (take i weights) incidences ys system old → KeepAtPlaces names (take (i + 1) weights) incidences ys system new
places_more names weights i weight incidences here ys system place old new distinct inside item found lower all tested before q t within weighed listed below =
    cases (or_cases (is_weighed (take i weights) (get_or names q [])) (bytes_eq (get_or names q []) (get_or weights i weight).place)
    (sym (list_any_more (λ (w : Weight). bytes_eq (get_or names q []) w.place) weights i weight inside) ∙ weighed))
  where
    at : (place < length names) × (get_or names place [] ≡ weight.place)
    at = named names weight.place place [] found

    now : bytes_eq (get_or names q []) (get_or weights i weight).place ≡ true → keeps ys system t ≡ true
    now same =
        let name : get_or names q [] ≡ weight.place = (bytes_decides (get_or names q []) (get_or weights i weight).place).0 same ∙ ap (λ (w : Weight). w.place) (sym item) in
        let is : q ≡ place = same_place names q place distinct within at.0 (name ∙ sym at.1) in
        All-contains (λ (one : Incidence). one.transition < new → keeps ys system one.transition ≡ true) here (incidence place t) tested
        (all t (subst (λ p. Contains incidences (incidence p t)) is listed)) below

    cases : (is_weighed (take i weights) (get_or names q []) ≡ true) ⊎ (bytes_eq (get_or names q []) (get_or weights i weight).place ≡ true) → keeps ys system t ≡ true
    cases (inl earlier) = before q t within earlier listed (omega (arith, below, lower))
    cases (inr same) = now same

pub zero_term : (total : Total) (is_taken : Bool) (count : ℕ) → with_term total (signed is_taken (pos 0 *ℤ pos count)) ≡ total
zero_term total is_taken count = ap (with_term total) (nothing is_taken) ∙ same_total (with_term total (pos 0)) total (omega (arith, ints)) (omega arith)
  where
    nothing : (b : Bool) → signed b (pos 0 *ℤ pos count) ≡ pos 0
    nothing true = omega (arith, ints)
    nothing false = omega (arith, ints)

-- cells where the coefficients are 0 add nothing
zero_cells : (is_taken : Bool) (ys : List ℤ) (cells : List Cell) → AllByRecursion (λ c. get_or ys c.at (pos 0) ≡ pos 0) cells → total_of (cell_terms is_taken ys cells) ≡ zero_total
zero_cells is_taken ys [] all = refl
zero_cells is_taken ys (c ∷ cells) all =
    ap (λ t. with_term t (signed is_taken (get_or ys c.at (pos 0) *ℤ pos c.count))) (zero_cells is_taken ys cells all.1)
    ∙ ap (λ y. with_term zero_total (signed is_taken (y *ℤ pos c.count))) all.0
    ∙ zero_term zero_total is_taken c.count

-- a transition at whose places the coefficients are 0 keeps the sum
pub zero_keeps : (ys : List ℤ) (t : Instance) → IsInRange (length ys) t.pre → IsInRange (length ys) t.post
    → All (λ c. get_or ys c.at (pos 0) ≡ pos 0) t.pre → All (λ c. get_or ys c.at (pos 0) ≡ pos 0) t.post → is_true (instance_check ys t) ≡ true
zero_keeps ys t pre_within post_within pre_zero post_zero =
    ap is_true (sym (cells_check-counts ys t.pre t.post pre_within post_within))
    ∙ ap (λ total. is_true (keeps_total total)) (total_of-append (cell_terms false ys t.post) (cell_terms true ys t.pre))
    ∙ ap (λ total. is_true (keeps_total (joined total (total_of (cell_terms true ys t.pre))))) (zero_cells false ys t.post (recursion_from_All (λ (c : Cell). get_or ys c.at (pos 0) ≡ pos 0) t.post post_zero))
    ∙ ap (λ total. is_true (keeps_total (joined zero_total total))) (zero_cells true ys t.pre (recursion_from_All (λ (c : Cell). get_or ys c.at (pos 0) ≡ pos 0) t.pre pre_zero))

-- the weights give 0 to what isn't weighed
unweighed : (weights : List Weight) (id : List ℕ) → is_weighed weights id ≡ false → weight_on weights id ≡ pos 0
unweighed [] id is = refl
unweighed (w ∷ weights) id is = cases (bytes_eq id w.place) is (unweighed weights id)
  where
    cases : (b : Bool) → (b || is_weighed weights id) ≡ false → (is_weighed weights id ≡ false → weight_on weights id ≡ pos 0) → cond b w.value (pos 0) +ℤ weight_on weights id ≡ pos 0
    cases true none rest = absurd (grind (arith, none))
    cases false none rest = let zero_rest = rest none in omega (arith, ints, zero_rest)

-- a cell that passes a test, or none
some_or_none : (f : Cell → Bool) (cells : List Cell) → ((k : ℕ) × (k < length cells) × ((d : Cell) → f (get_or cells k d) ≡ true)) ⊎ All (λ c. f c ≡ false) cells
some_or_none f [] = inr (λ k d within. absurd (omega arith))
some_or_none f (c ∷ cells) = cases (f c) refl (some_or_none f cells)
  where
    cases : (b : Bool) → f c ≡ b → ((k : ℕ) × (k < length cells) × ((d : Cell) → f (get_or cells k d) ≡ true)) ⊎ All (λ c. f c ≡ false) cells
        → ((k : ℕ) × (k < length (c ∷ cells)) × ((d : Cell) → f (get_or (c ∷ cells) k d) ≡ true)) ⊎ All (λ c. f c ≡ false) (c ∷ cells)
    cases true is rest = inl (0, omega arith, λ d. is)
    cases false is (inl (k, within, passes)) = inl (suc k, omega (arith, within), passes)
    cases false is (inr none) = inr (all is none)
      where
        all : f c ≡ false → All (λ c. f c ≡ false) cells → All (λ c. f c ≡ false) (c ∷ cells)
        all first rest zero d inside = first
        all first rest (suc k) d inside = rest k d (omega (arith, inside))

-- the transitions that aren't listed at a place of the weights keep the sum too
pub all_keep : (names : List (List ℕ)) (weights : List Weight) (incidences : List Incidence) (ys : List ℤ) (system : NetSystem) (marks : List ℕ) (mark least : ℕ)
    → length names ≡ length system.initial → ys ≡ map (weight_on weights) names → AreIncidences system incidences
    → IsFirstMarked ys system marks mark least → KeepAtPlaces names weights incidences ys system least → IsFirstFailing ys system least
all_keep names weights incidences ys system marks mark least long spread are first kept = record {
  within = first.within;
  before = λ t below. before t below (omega (arith, below, first.within));
  fails = first.fails;
}
  where
    as_long : length ys ≡ length system.initial
    as_long = ap length spread ∙ length-map names (weight_on weights) ∙ long

    weighed : Cell → Bool
    weighed c = is_weighed weights (get_or names c.at [])

    listed_keeps : (t : ℕ) (row : List Cell) → t < least → IsInRange (length system.initial) row → ListsRow incidences t row
        → (k : ℕ) × (k < length row) × ((d : Cell) → weighed (get_or row k d) ≡ true) → keeps ys system t ≡ true
    listed_keeps t row below range listed (k, within, passes) =
        let c : Cell = get_or row k (record { at = 0; count = 0 }) in
        let inside : c.at < length system.initial = range k (record { at = 0; count = 0 }) within in
        kept c.at t (omega (arith, inside, long)) (passes (record { at = 0; count = 0 })) (listed k (record { at = 0; count = 0 }) within) below

    zeros : (row : List Cell) → IsInRange (length system.initial) row → All (λ c. weighed c ≡ false) row → All (λ c. get_or ys c.at (pos 0) ≡ pos 0) row
    zeros row range none k d within =
        let inside = range k d within in
        ap (λ zs. get_or zs (get_or row k d).at (pos 0)) spread
        ∙ get_or-map (weight_on weights) names (get_or row k d).at [] (pos 0) (omega (arith, inside, long))
        ∙ unweighed weights (get_or names (get_or row k d).at []) (none k d within)

    before : (t : ℕ) → t < least → t < length system.instances → keeps ys system t ≡ true
    before t below inside = pre_first (some_or_none weighed (instance_at system t).pre)
      where
        range : (row : List Cell) → ListsRow incidences t row → IsInRange (length system.initial) row
        range row listed k d within = All-contains (λ (one : Incidence). one.place < length system.initial) incidences (incidence (get_or row k d).at t) are.places (listed k d within)

        pre_range : IsInRange (length system.initial) (instance_at system t).pre
        pre_range = range (instance_at system t).pre (are.taken t inside)

        post_range : IsInRange (length system.initial) (instance_at system t).post
        post_range = range (instance_at system t).post (are.put t inside)

        post_next : All (λ c. weighed c ≡ false) (instance_at system t).pre
            → ((k : ℕ) × (k < length (instance_at system t).post) × ((d : Cell) → weighed (get_or (instance_at system t).post k d) ≡ true)) ⊎ All (λ c. weighed c ≡ false) (instance_at system t).post
            → keeps ys system t ≡ true
        post_next none (inl some) = listed_keeps t (instance_at system t).post below post_range (are.put t inside) some
        post_next none (inr also) =
            zero_keeps ys (instance_at system t)
            (subst (λ n. IsInRange n (instance_at system t).pre) (sym as_long) pre_range)
            (subst (λ n. IsInRange n (instance_at system t).post) (sym as_long) post_range)
            (zeros (instance_at system t).pre pre_range none) (zeros (instance_at system t).post post_range also)

        pre_first : ((k : ℕ) × (k < length (instance_at system t).pre) × ((d : Cell) → weighed (get_or (instance_at system t).pre k d) ≡ true)) ⊎ All (λ c. weighed c ≡ false) (instance_at system t).pre
            → keeps ys system t ≡ true
        pre_first (inl some) = listed_keeps t (instance_at system t).pre below pre_range (are.taken t inside) some
        pre_first (inr none) = post_next none (some_or_none weighed (instance_at system t).post)

-- the same of what a search answers
pub all_keep_found : {E : Type 0} (names : List (List ℕ)) (weights : List Weight) (incidences : List Incidence) (ys : List ℤ) (system : NetSystem) (marks : List ℕ) (mark : ℕ) (found : Result ℕ E)
    → length names ≡ length system.initial → ys ≡ map (weight_on weights) names → AreIncidences system incidences
    → IfOk found (IsFirstMarked ys system marks mark) → IfOk found (KeepAtPlaces names weights incidences ys system) → IfOk found (IsFirstFailing ys system)
all_keep_found names weights incidences ys system marks mark (Ok least) long spread are first kept = all_keep names weights incidences ys system marks mark least long spread are first kept
all_keep_found names weights incidences ys system marks mark (Err fault) long spread are first kept = tt

-- the checks that are true decide nothing
rows_skipped : (flow from least : ℕ) (checks : List Check) → least ≤ length checks → ((t : ℕ) → t < least → is_true (get_or checks t check.True) ≡ true)
    → judged_rows flow from checks ≡ judged_rows flow (from + least) (drop least checks)
rows_skipped flow from zero checks within all = ap (λ n. judged_rows flow n checks) (omega arith)
rows_skipped flow from (suc least) [] within all = absurd (omega arith)
rows_skipped flow from (suc least) (first ∷ checks) within all =
    true_first first (all 0 (omega arith))
    ∙ rows_skipped flow (from + 1) least checks (omega (arith, within)) (λ t below. all (suc t) (omega (arith, below)))
    ∙ ap (λ n. judged_rows flow n (drop least checks)) (omega arith)
  where
    true_first : (verdict : Check) → is_true verdict ≡ true → then_judged (Step flow from) verdict (judged_rows flow (from + 1) checks) ≡ judged_rows flow (from + 1) checks
    true_first check.True is = refl
    true_first check.False is = absurd (grind (arith, is))
    true_first check.Wide is = absurd (grind (arith, is))

skipped_to : (flow : ℕ) (ys : List ℤ) (system : NetSystem) (least : ℕ) → IsFirstFailing ys system least
    → judged_rows flow 0 (row_checks ys system.instances) ≡ judged_rows flow least (drop least (row_checks ys system.instances))
skipped_to flow ys system least first =
    rows_skipped flow 0 least (row_checks ys system.instances) (omega (arith, length-map system.instances (instance_check ys), first.within))
    (λ t below. ap is_true (get_or-map (instance_check ys) system.instances t (record { transition = 0; binding = 0; pre = []; post = [] }) check.True (omega (arith, below, first.within))) ∙ first.before t below)
    ∙ ap (λ n. judged_rows flow n (drop least (row_checks ys system.instances))) (omega arith)

-- where none fails the flow is shown
pub all_shown : (flow : ℕ) (ys : List ℤ) (system : NetSystem) (least : ℕ) → IsFirstFailing ys system least → least ≡ length system.instances
    → judged_rows flow 0 (row_checks ys system.instances) ≡ Shown
all_shown flow ys system least first all =
    skipped_to flow ys system least first
    ∙ ap (judged_rows flow least) (drop_of_length-le (row_checks ys system.instances) (omega (arith, length-map system.instances (instance_check ys), all)))

-- the first that fails decides
pub first_decides : (flow : ℕ) (ys : List ℤ) (system : NetSystem) (least : ℕ) (verdict : Check) → IsFirstFailing ys system least → least < length system.instances
    → verdict ≡ instance_check ys (instance_at system least)
    → then_judged (Step flow least) verdict Shown ≡ judged_rows flow 0 (row_checks ys system.instances)
first_decides flow ys system least verdict first within is =
    sym (skipped_to flow ys system least first
    ∙ ap (judged_rows flow least) (drop_more (row_checks ys system.instances) least verdict inside)
    ∙ ap (λ k. then_judged (Step flow least) k rest) here
    ∙ untrue verdict (ap is_true is ∙ first.fails within) rest)
  where
    inside : least < length (row_checks ys system.instances)
    inside = omega (arith, length-map system.instances (instance_check ys), within)

    rest : Judged
    rest = judged_rows flow (least + 1) (drop (least + 1) (row_checks ys system.instances))

    here : get_or (row_checks ys system.instances) least verdict ≡ verdict
    here = get_or-map (instance_check ys) system.instances least (record { transition = 0; binding = 0; pre = []; post = [] }) verdict within ∙ sym is

    untrue : (k : Check) → is_true k ≡ false → (next : Judged) → then_judged (Step flow least) k next ≡ then_judged (Step flow least) k Shown
    untrue check.True fails next = absurd (grind (arith, fails))
    untrue check.False fails next = refl
    untrue check.Wide fails next = refl

-- the places of the first weights have 0, and the others what all weights say
abbrev pub AreCleared : List (List ℕ) → List Weight → ℕ → List ℤ → Type 0
AreCleared names weights count coefficients =
    (place : ℕ) → place < length names
    → get_or coefficients place (pos 0) ≡ cond (is_weighed (take count weights) (get_or names place [])) (pos 0) (weight_on weights (get_or names place []))

pub same_or_other : (a b : ℕ) → (a ≡ b) ⊎ (a ≢ b)
same_or_other a b = grind arith

-- one more place is cleared
pub cleared_more : (names : List (List ℕ)) (weights : List Weight) (i : ℕ) (weight : Weight) (old new : List ℤ) (place : ℕ)
    → AreDistinct names → i < length weights → weight ≡ get_or weights i weight → number_in names weight.place ≡ Some place → length old ≡ length names → new ≡ slice_set old place (pos 0)
    → AreCleared names weights i old → AreCleared names weights (i + 1) new
cleared_more names weights i weight old new place distinct inside item found long is before q within = cases (same_or_other q place)
  where
    at : (place < length names) × (get_or names place [] ≡ weight.place)
    at = named names weight.place place [] found

    more : (b : Bool) → bytes_eq (get_or names q []) weight.place ≡ b
        → is_weighed (take (i + 1) weights) (get_or names q []) ≡ (is_weighed (take i weights) (get_or names q []) || b)
    more b test =
        list_any_more (λ (w : Weight). bytes_eq (get_or names q []) w.place) weights i weight inside
        ∙ ap (λ (w : Weight). is_weighed (take i weights) (get_or names q []) || bytes_eq (get_or names q []) w.place) (sym item)
        ∙ ap (λ t. is_weighed (take i weights) (get_or names q []) || t) test

    or_false : (b : Bool) → (b || false) ≡ b
    or_false true = refl
    or_false false = refl

    here : q ≡ place → get_or new q (pos 0) ≡ cond (is_weighed (take (i + 1) weights) (get_or names q [])) (pos 0) (weight_on weights (get_or names q []))
    here same =
        let named : get_or names q [] ≡ weight.place = ap (λ n. get_or names n []) same ∙ at.1 in
        ap (λ n. get_or new n (pos 0)) same
        ∙ ap (λ xs. get_or xs place (pos 0)) is
        ∙ get_or-set_same old place (pos 0) (pos 0) (omega (arith, at.0, long))
        ∙ sym (ap (λ b. cond b (pos 0) (weight_on weights (get_or names q []))) (more true ((bytes_decides (get_or names q []) weight.place).1 named) ∙ or-true (is_weighed (take i weights) (get_or names q []))))

    there : q ≢ place → get_or new q (pos 0) ≡ cond (is_weighed (take (i + 1) weights) (get_or names q [])) (pos 0) (weight_on weights (get_or names q []))
    there apart =
        let unnamed : get_or names q [] ≢ weight.place = λ e. apart (same_place names q place distinct within at.0 (e ∙ sym at.1)) in
        ap (λ xs. get_or xs q (pos 0)) is
        ∙ get_or-set_other old place q (pos 0) (pos 0) apart
        ∙ before q within
        ∙ sym (ap (λ b. cond b (pos 0) (weight_on weights (get_or names q []))) (more false (other_bytes (get_or names q []) weight.place unnamed) ∙ or_false (is_weighed (take i weights) (get_or names q []))))

    cases : (q ≡ place) ⊎ (q ≢ place) → get_or new q (pos 0) ≡ cond (is_weighed (take (i + 1) weights) (get_or names q [])) (pos 0) (weight_on weights (get_or names q []))
    cases (inl same) = here same
    cases (inr apart) = there apart

-- where all weights are cleared every place has 0
pub all_cleared : (names : List (List ℕ)) (weights : List Weight) (count : ℕ) (coefficients : List ℤ) → length coefficients ≡ length names → count ≡ length weights
    → AreCleared names weights count coefficients → coefficients ≡ replicate (length names) (pos 0)
all_cleared names weights count coefficients long all cleared =
    ext_get_or (pos 0) coefficients (replicate (length names) (pos 0)) (long ∙ sym (length-replicate (length names) (pos 0)))
    (λ i within. zero_at i (omega (arith, within, long)) ∙ sym (get_or-replicate (length names) i (pos 0) (pos 0) (omega (arith, within, long))))
  where
    whole : take count weights ≡ weights
    whole = ap (λ n. take n weights) all ∙ take-length weights

    zero_or : (b : Bool) (id : List ℕ) → is_weighed weights id ≡ b → cond b (pos 0) (weight_on weights id) ≡ pos 0
    zero_or true id is = refl
    zero_or false id is = unweighed weights id is

    zero_at : (i : ℕ) → i < length names → get_or coefficients i (pos 0) ≡ pos 0
    zero_at i within =
        cleared i within
        ∙ ap (λ ws. cond (is_weighed ws (get_or names i [])) (pos 0) (weight_on weights (get_or names i []))) whole
        ∙ zero_or (is_weighed weights (get_or names i [])) (get_or names i []) refl
