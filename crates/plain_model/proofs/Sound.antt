-- A certificate whose obligations are all true shows the invariant.
use Rattle.std.proofs.Common.{◌≡◌, ℕ, ◌≤◌, Bool, true, false, List, [], ◌∷◌, map, ℤ, pos, negsuc, ◌+ℤ◌, ◌-ℤ◌, refl, sym, ◌∙◌, arith}
use Rattle.std.specs.Prelude.{cond, int_le, int_lt, flat_map}
use Rattle.std.specs.List.{list_all, enumerate_from}
use Rattle.std.proofs.lemmas.Int.{ints}
use Rattle.std.proofs.lemmas.Bool.Decides.{nat_tests}
use Rattle.plain_model.specs.declared.nets.PlainNet.{PlainNet}
use Rattle.plain_model.specs.declared.properties.Property.{Property}
use Rattle.plain_model.specs.declared.certificates.Certificate.{Certificate}
use Rattle.plain_model.specs.declared.certificates.Flow.{Flow}
use Rattle.plain_model.specs.declared.verdicts.Check.{Check}
use Rattle.plain_model.specs.declared.verdicts.Check.TheVariants as check
use Rattle.plain_model.specs.declared.verdicts.Spot.TheVariants.{Step, Close}
use Rattle.plain_model.specs.declared.verdicts.Judged.TheVariants.{Shown}
use Rattle.plain_model.specs.Firing.{Reach}
use Rattle.plain_model.specs.Satisfaction.{Satisfies, value_of}
use Rattle.plain_model.specs.Forms.{value_at, hypothesis_slack}
use Rattle.plain_model.specs.Obligations.{Obligation, judged, flow_check, parts, close_sums, is_refuted, is_signed_well, close_check, obligations, is_true, judgement}
use Rattle.plain_model.proofs.Products.{and_split}
use Rattle.std.proofs.lemmas.List.Folds.{list_all-map}
use Rattle.plain_model.proofs.Lists.{list_all-append, list_all-flat_map, list_all-enumerate_from, all_true}
use Rattle.plain_model.proofs.Flows.{judged_holds, named_slack_is_zero}
use Rattle.plain_model.proofs.Refutation.{combined, hypothesis_value, refuted_is_below, combined_is_not_below}

-- all obligations of the flows and that of `close`
split_obligations : (net : PlainNet) (property : Property) (certificate : Certificate) → judgement net property certificate ≡ Shown
    → (list_all (λ flow. list_all (λ t. is_true (flow_check net flow t)) net.transitions) certificate.flows ≡ true) × (is_true (close_check net property certificate) ≡ true)
split_obligations net property certificate shown =
    let steps : (ℕ × Flow) → List Obligation = λ flow. map (λ transition. record { spot = Step flow.0 transition.0; check = flow_check net flow.1 transition.1 }) (enumerate_from 0 net.transitions) in
    let all = all_true (obligations net property certificate) shown in
    let both = list_all-append (λ (o : Obligation). is_true o.check) (flat_map steps (enumerate_from 0 certificate.flows)) (record { spot = Close; check = close_check net property certificate } ∷ []) all in
    let each = list_all-flat_map (λ (o : Obligation). is_true o.check) steps (enumerate_from 0 certificate.flows) both.0 in (
      sym (list_all-enumerate_from (λ flow. list_all (λ t. is_true (flow_check net flow t)) net.transitions) 0 certificate.flows)
          ∙ each_flow net (enumerate_from 0 certificate.flows) each,
      (and_split (is_true (close_check net property certificate)) true both.1).0,
    )
  where
    one_flow : (net : PlainNet) (flow : ℕ × Flow)
        → list_all (λ (o : Obligation). is_true o.check) (map (λ transition. record { spot = Step flow.0 transition.0; check = flow_check net flow.1 transition.1 }) (enumerate_from 0 net.transitions)) ≡ list_all (λ t. is_true (flow_check net flow.1 t)) net.transitions
    one_flow net flow =
        list_all-map (λ (o : Obligation). is_true o.check) (λ transition. record { spot = Step flow.0 transition.0; check = flow_check net flow.1 transition.1 }) (enumerate_from 0 net.transitions)
        ∙ list_all-enumerate_from (λ t. is_true (flow_check net flow.1 t)) 0 net.transitions

    each_flow : (net : PlainNet) (flows : List (ℕ × Flow))
        → list_all (λ flow. list_all (λ (o : Obligation). is_true o.check) (map (λ transition. record { spot = Step flow.0 transition.0; check = flow_check net flow.1 transition.1 }) (enumerate_from 0 net.transitions))) flows ≡ true
        → list_all (λ flow. list_all (λ t. is_true (flow_check net flow.1 t)) net.transitions) flows ≡ true
    each_flow net [] h = refl
    each_flow net (flow ∷ flows) h =
        let both = and_split (list_all (λ (o : Obligation). is_true o.check) (map (λ transition. record { spot = Step flow.0 transition.0; check = flow_check net flow.1 transition.1 }) (enumerate_from 0 net.transitions)))
        (list_all (λ f. list_all (λ (o : Obligation). is_true o.check) (map (λ transition. record { spot = Step f.0 transition.0; check = flow_check net f.1 transition.1 }) (enumerate_from 0 net.transitions))) flows) h in
        let first : list_all (λ t. is_true (flow_check net flow.1 t)) net.transitions ≡ true = sym (one_flow net flow) ∙ both.0 in
        rw first (each_flow net flows both.1)

-- a true `close` line has the right signs and refutes
close_holds : (net : PlainNet) (property : Property) (certificate : Certificate) → is_true (close_check net property certificate) ≡ true
    → (list_all is_signed_well certificate.close ≡ true) × (is_refuted net (parts net property certificate) ≡ true)
close_holds net property certificate h =
    cases (list_all is_signed_well certificate.close) (judged (close_sums net (parts net property certificate)) (is_refuted net (parts net property certificate))) h
    (λ j. (judged_holds (close_sums net (parts net property certificate)) (is_refuted net (parts net property certificate)) j).1)
  where
    cases : {P : Type 0} (signed : Bool) (verdict : Check) → is_true (cond signed verdict check.False) ≡ true → (is_true verdict ≡ true → P) → (signed ≡ true) × P
    cases true verdict h next = (refl, next h)
    cases false verdict h next = absurd cc

pub shown_is_invariant : (net : PlainNet) (property : Property) (certificate : Certificate) → judgement net property certificate ≡ Shown
    → (marking : List ℕ) → Reach net marking → Satisfies net property marking
shown_is_invariant net property certificate shown marking reach =
    let split = split_obligations net property certificate shown in
    let close = close_holds net property certificate split.1 in
    let below = refuted_is_below net (parts net property certificate) marking close.1 in
    let refuted : int_le (pos 0) (value_at net (hypothesis_slack property) marking) ≡ true → ⊥ =
    λ met. contradiction (combined net (parts net property certificate) marking) (combined_is_not_below net property certificate.flows certificate.close marking
    (λ name. named_slack_is_zero net certificate.flows name marking split.0 reach) met close.0) below in
    decided (value_of net marking property.left) (value_of net marking property.right) (value_at net (hypothesis_slack property) marking)
    (hypothesis_value net property marking) refuted
  where
    contradiction : (z : ℤ) → int_le (pos 0) z ≡ true → int_lt z (pos 0) ≡ true → ⊥
    contradiction z p q = grind (arith, ints)

    at_least : (n : ℕ) → int_le (pos 0) (pos n) ≡ true
    at_least n = grind (arith, ints, nat_tests)

    decided : (left right : ℕ) (z : ℤ) → z +ℤ pos 1 ≡ pos left -ℤ pos right → (int_le (pos 0) z ≡ true → ⊥) → left ≤ right
    decided left right (pos n) e refuted = absurd (refuted (at_least n))
    decided left right (negsuc n) e refuted = omega (arith, ints, e)
