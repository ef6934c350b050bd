-- Laws of obligations judged in order.
use Rattle.std.proofs.Common.{◌≡◌, ℕ, ◌+◌, ◌^◌, ◌<◌, Bool, true, false, cond, ◌||◌, List, [], ◌∷◌, ◌++◌, map, length, get_or, drop, ℤ, neg_ℤ, refl, sym, ◌∙◌, ap, subst, arith, nat_eq, nat_le}
use Rattle.std.specs.Prelude.{flat_map, unsigned_abs}
use Rattle.std.specs.List.{enumerate_from}
use Rattle.std.proofs.lemmas.Simd.{map-map}
use Rattle.std.proofs.lemmas.List.{drop_more, ext_get_or, get_or-map, get_or_append_left, length-append, length-map}
use Rattle.std.proofs.lemmas.Option.{slice_get-get_or}
use Rattle.wide_sums.specs.Total.{total_of}
use Rattle.pt_net.specs.Markings.{counts_of, IsInRange}
use Rattle.pt_net.specs.Systems.{NetSystem, instance_at}
use Rattle.plain_model.specs.declared.nets.PlainNet.{PlainNet}
use Rattle.plain_model.specs.declared.nets.Place.{Place}
use Rattle.plain_model.specs.declared.certificates.Flow.{Flow}
use Rattle.plain_model.specs.declared.certificates.Certificate.{Certificate}
use Rattle.plain_model.specs.declared.properties.Property.{Property}
use Rattle.plain_model.specs.declared.nets.Arc.{Arc}
use Rattle.plain_model.specs.declared.verdicts.Check.{Check}
use Rattle.plain_model.specs.declared.verdicts.Check.TheVariants as check
use Rattle.plain_model.specs.declared.verdicts.Spot.{Spot}
use Rattle.plain_model.specs.declared.verdicts.Spot.TheVariants.{Step, Close}
use Rattle.plain_model.specs.declared.verdicts.Judged.{Judged}
use Rattle.plain_model.specs.declared.verdicts.Judged.TheVariants.{Shown, NotShown, Range}
use Rattle.plain_model.specs.Firing.{inputs, outputs}
use Rattle.plain_model.specs.Sums.{sum_of, products}
use Rattle.plain_model.specs.Forms.{coefficients, flow_slack}
use Rattle.plain_model.specs.Obligations.{Obligation, close_check, flow_check, judgement, judged, step_check}
use Rattle.plain_judge.specs.Cells.{cells_check, keeps_total}
use Rattle.plain_judge.proofs.Dense.{cells_check-dense}
use Rattle.plain_model.specs.Forms.{weight_on}
use Rattle.plain_model.specs.Plain.{AreDistinct, IsPlainNet, place_ids}
use Rattle.plain_rows.specs.Rows.{AreRowsOf}
use Rattle.wide_sums.specs.declared.rows.Cell.{Cell}
use Rattle.plain_judge.specs.Judging.{all_judged, then_judged, judged_rows, instance_check, row_checks, steps, flows_judged}

-- one obligation first
all_judged-first : (spot : Spot) (verdict : Check) (os : List Obligation) → all_judged (record { spot = spot; check = verdict } ∷ os) ≡ then_judged spot verdict (all_judged os)
all_judged-first spot check.True os = refl
all_judged-first spot check.False os = refl
all_judged-first spot check.Wide os = refl

-- what the first list says, and then the second
abbrev pub or_else : Judged → Judged → Judged
or_else Shown next = next
or_else (NotShown spot) next = NotShown spot
or_else (Range spot) next = Range spot

then_or_else : (spot : Spot) (verdict : Check) (first next : Judged) → then_judged spot verdict (or_else first next) ≡ or_else (then_judged spot verdict first) next
then_or_else spot check.True first next = refl
then_or_else spot check.False first next = refl
then_or_else spot check.Wide first next = refl

pub all_judged-append : (xs ys : List Obligation) → all_judged (xs ++ ys) ≡ or_else (all_judged xs) (all_judged ys)
all_judged-append [] ys = refl
all_judged-append (x ∷ xs) ys =
    all_judged-first x.spot x.check (xs ++ ys)
    ∙ ap (then_judged x.spot x.check) (all_judged-append xs ys)
    ∙ then_or_else x.spot x.check (all_judged xs) (all_judged ys)
    ∙ ap (λ j. or_else j (all_judged ys)) (sym (all_judged-first x.spot x.check xs))

-- the steps of a flow are judged by their checks
steps_judged : (number from : ℕ) (f : List ℕ → Check) (ts : List (List ℕ))
    → all_judged (map (λ transition. record { spot = Step number transition.0; check = f transition.1 }) (enumerate_from from ts)) ≡ judged_rows number from (map f ts)
steps_judged number from f [] = refl
steps_judged number from f (t ∷ ts) =
    all_judged-first (Step number from) (f t) (map (λ transition. record { spot = Step number transition.0; check = f transition.1 }) (enumerate_from (from + 1) ts))
    ∙ ap (then_judged (Step number from) (f t)) (steps_judged number (from + 1) f ts)

-- the flows from a number on
abbrev pub flows_from : PlainNet → ℕ → List Flow → Judged
flows_from net number flows = all_judged (flat_map (λ flow. steps net flow.0 flow.1) (enumerate_from number flows))

pub flows_from-first : (net : PlainNet) (number : ℕ) (flow : Flow) (flows : List Flow)
    → flows_from net number (flow ∷ flows) ≡ or_else (judged_rows number 0 (map (flow_check net flow) net.transitions)) (flows_from net (number + 1) flows)
flows_from-first net number flow flows =
    all_judged-append (steps net number flow) (flat_map (λ f. steps net f.0 f.1) (enumerate_from (number + 1) flows))
    ∙ ap (λ j. or_else j (flows_from net (number + 1) flows)) (steps_judged number 0 (flow_check net flow) net.transitions)

keeps_as_judged : (terms : List ℤ) → keeps_total (total_of terms) ≡ judged (terms ∷ []) (nat_eq (unsigned_abs (sum_of terms)) 0)
keeps_as_judged terms = cases (nat_le (2 ^ 127) (total_of terms).size)
  where
    cases : (b : Bool) → cond b check.Wide (cond (nat_eq (unsigned_abs (total_of terms).value) 0) check.True check.False) ≡ cond (b || false) check.Wide (cond (nat_eq (unsigned_abs (sum_of terms)) 0) check.True check.False)
    cases true = refl
    cases false = refl

-- a step over sparse rows is that over their counts
pub cells_check-counts : (ys : List ℤ) (taken put : List Cell) → IsInRange (length ys) taken → IsInRange (length ys) put
    → cells_check ys taken put ≡ step_check ys (counts_of (length ys) taken) (counts_of (length ys) put)
cells_check-counts ys taken put taken_within put_within =
    ap keeps_total (cells_check-dense ys taken put taken_within put_within)
    ∙ keeps_as_judged (products ys (counts_of (length ys) put) ++ map neg_ℤ (products ys (counts_of (length ys) taken)))

-- the instances are checked as the transitions of the file
instances_checked : (net : PlainNet) (system : NetSystem) (flow : Flow) (ys : List ℤ) → AreRowsOf net system → ys ≡ coefficients net (flow_slack net flow) → length ys ≡ length net.places
    → row_checks ys system.instances ≡ map (flow_check net flow) net.transitions
instances_checked net system flow ys rows are long =
    ext_get_or check.True (row_checks ys system.instances) (map (flow_check net flow) net.transitions)
    (length-map system.instances (instance_check ys) ∙ rows.as_many ∙ sym (length-map net.transitions (flow_check net flow)))
    (λ i within.
    let inside : i < length system.instances = omega (arith, length-map system.instances (instance_check ys)) in
    let there : i < length net.transitions = omega (arith, rows.as_many) in
    let instance = rows.each i (get_or net.transitions i []) (slice_get-get_or net.transitions i [] there) in
    get_or-map (instance_check ys) system.instances i (record { transition = 0; binding = 0; pre = []; post = [] }) check.True inside
    ∙ ap (λ n. step_check ys (counts_of n (instance_at system i).pre) (counts_of n (instance_at system i).post)) long
    ∙ ap (λ takes. step_check ys takes (counts_of (length net.places) (instance_at system i).post)) instance.pre
    ∙ ap (λ puts. step_check ys (inputs net (get_or net.transitions i [])) puts) instance.post
    ∙ ap (λ zs. step_check zs (inputs net (get_or net.transitions i [])) (outputs net (get_or net.transitions i []))) are
    ∙ sym (get_or-map (flow_check net flow) net.transitions i [] check.True there))

-- the steps of the next flow decide, or the rest
pub flows_decided : (net : PlainNet) (system : NetSystem) (ids : List (List ℕ)) (flows : List Flow) (at : ℕ) (d : Flow) (ys : List ℤ) (verdict whole : Judged) → at < length flows
    → AreRowsOf net system → ids ≡ place_ids net
    → ys ≡ map (weight_on (get_or flows at d).weights) ids
    → verdict ≡ judged_rows at 0 (row_checks ys system.instances)
    → whole ≡ flows_from net at (drop at flows)
    → whole ≡ or_else verdict (flows_from net (at + 1) (drop (at + 1) flows))
flows_decided net system ids flows at d ys verdict whole within rows places spread is so_far =
    let are : ys ≡ coefficients net (flow_slack net (get_or flows at d)) =
    spread ∙ ap (map (weight_on (get_or flows at d).weights)) places ∙ map-map (weight_on (get_or flows at d).weights) (λ (place : Place). place.id) net.places in
    let long : length ys ≡ length net.places = ap length are ∙ length-map net.places _ in
    so_far
    ∙ ap (flows_from net at) (drop_more flows at d within)
    ∙ flows_from-first net at (get_or flows at d) (drop (at + 1) flows)
    ∙ ap (λ checks. or_else (judged_rows at 0 checks) (flows_from net (at + 1) (drop (at + 1) flows))) (sym (instances_checked net system (get_or flows at d) ys rows are long))
    ∙ ap (λ j. or_else j (flows_from net (at + 1) (drop (at + 1) flows))) (sym is)

-- the flows, and then `close`
pub judgement_after : (net : PlainNet) (property : Property) (certificate : Certificate) (first : Judged) → first ≡ flows_judged net certificate.flows
    → judgement net property certificate ≡ or_else first (then_judged Close (close_check net property certificate) Shown)
judgement_after net property certificate first is =
    all_judged-append (flat_map (λ (flow : ℕ × Flow). steps net flow.0 flow.1) (enumerate_from 0 certificate.flows)) (record { spot = Close; check = close_check net property certificate } ∷ [])
    ∙ ap (λ j. or_else (flows_judged net certificate.flows) j) (all_judged-first Close (close_check net property certificate) [])
    ∙ ap (λ j. or_else j (then_judged Close (close_check net property certificate) Shown)) (sym is)

distinct_front : (xs ys : List (List ℕ)) → AreDistinct (xs ++ ys) → AreDistinct xs
distinct_front xs ys distinct i j d below within =
    λ same. distinct i j d below (omega (arith, length-append xs ys)) (get_or_append_left xs ys d i (omega arith) ∙ same ∙ sym (get_or_append_left xs ys d j within))

-- the ids of the places of a plain net are distinct
pub distinct_places : (net : PlainNet) (ids : List (List ℕ)) → IsPlainNet net → ids ≡ place_ids net → AreDistinct ids
distinct_places net ids plain are =
    subst AreDistinct (sym are) (distinct_front (place_ids net) net.transitions (distinct_front (place_ids net ++ net.transitions) (map (λ (arc : Arc). arc.id) net.arcs) plain.distinct))
