-- The obligations of a certificate, and what they show.
use Rattle.std.specs.Prelude.{ℕ, List, [], ◌∷◌, ◌++◌, map, flat_map, find, Bool, true, false, not, ◌&&◌, nat_eq, if◌then◌else◌, ℤ, pos, ◌*ℤ◌, neg_ℤ, int_le, int_lt, unsigned_abs, Option, Some, None}
use Rattle.std.specs.List.{list_all, list_any, enumerate_from}
use Rattle.plain_model.specs.declared.nets.PlainNet.{PlainNet}
use Rattle.plain_model.specs.declared.properties.Property.{Property}
use Rattle.plain_model.specs.declared.certificates.Flow.{Flow}
use Rattle.plain_model.specs.declared.certificates.Certificate.{Certificate}
use Rattle.plain_model.specs.declared.certificates.Multiplier.{Multiplier}
use Rattle.plain_model.specs.declared.certificates.Multiplier.TheVariants.{Fact, Hypothesis}
use Rattle.plain_model.specs.declared.verdicts.Check.{Check}
use Rattle.plain_model.specs.declared.verdicts.Check.TheVariants as check
use Rattle.plain_model.specs.declared.verdicts.Spot.{Spot}
use Rattle.plain_model.specs.declared.verdicts.Spot.TheVariants.{Step, Close}
use Rattle.plain_model.specs.declared.verdicts.Judged.{Judged}
use Rattle.plain_model.specs.declared.verdicts.Judged.TheVariants.{Shown, NotShown, Range}
use Rattle.plain_model.specs.Firing.{inputs, outputs}
use Rattle.plain_model.specs.Sums.{sum_of, is_wide, products}
use Rattle.plain_model.specs.Forms.{Form, coefficients, flow_slack, slack_of, multiplier_of}

-- out of range where a listed sum is, else whether the condition holds
abbrev pub judged : List (List ℤ) → Bool → Check
judged sums holds = if list_any is_wide sums then check.Wide else if holds then check.True else check.False

-- what taking and putting these counts adds to a weighted sum, place by place
abbrev pub step_terms : List ℤ → List ℕ → List ℕ → List ℤ
step_terms ys takes puts = products ys puts ++ map neg_ℤ (products ys takes)

-- taking and putting these counts keeps the weighted sum
abbrev pub step_check : List ℤ → List ℕ → List ℕ → Check
step_check ys takes puts = judged (step_terms ys takes puts ∷ []) (nat_eq (unsigned_abs (sum_of (step_terms ys takes puts))) 0)

-- firing the transition keeps the value of the flow (Murata 1989, S-invariants)
abbrev pub flow_check : PlainNet → Flow → List ℕ → Check
flow_check net flow transition = step_check (coefficients net (flow_slack net flow)) (inputs net transition) (outputs net transition)

-- one summand of `close`: a multiplier and a slack form
pub record Part : Type 0 where
  pub multiplier : ℤ
  pub slack : Form

abbrev pub parts : PlainNet → Property → Certificate → List Part
parts net property certificate =
    map (λ m. record { multiplier = multiplier_of m; slack = slack_of net property certificate.flows m }) certificate.close

-- the multipliers of hypotheses are at least 0
abbrev pub is_signed_well : Multiplier → Bool
is_signed_well (Fact factor) = true
is_signed_well (Hypothesis value number) = int_le (pos 0) value

-- the terms of the residual's coefficient on the place with this id
abbrev pub residual_coefficient : List Part → List ℕ → List ℤ
residual_coefficient ps id = map (λ part. part.multiplier *ℤ part.slack.coefficient id) ps

-- the terms of the residual's constant
abbrev pub residual_constant : List Part → List ℤ
residual_constant ps = map (λ part. part.multiplier *ℤ sum_of part.slack.constant) ps

-- the sums of `close`: the constants that it uses, the residual's coefficients and its constant.
-- Where no coefficient is positive, the residual's greatest value is its constant alone, since
-- every place has the lower bound 0.
abbrev pub close_sums : PlainNet → List Part → List (List ℤ)
close_sums net ps = map (λ part. part.slack.constant) ps ++ map (λ place. residual_coefficient ps place.id) net.places ++ residual_constant ps ∷ []

-- no place has an upper bound, so no coefficient is positive; and the greatest value is below 0
abbrev pub is_refuted : PlainNet → List Part → Bool
is_refuted net ps =
    list_all (λ place. int_le (sum_of (residual_coefficient ps place.id)) (pos 0)) net.places
    && int_lt (sum_of (residual_constant ps)) (pos 0)

-- the `close` line refutes the negated invariant
abbrev pub close_check : PlainNet → Property → Certificate → Check
close_check net property certificate =
    if list_all is_signed_well certificate.close
    then judged (close_sums net (parts net property certificate)) (is_refuted net (parts net property certificate))
    else check.False

pub record Obligation : Type 0 where
  pub spot : Spot
  pub check : Check

-- in order: the flows, each with the transitions, and then `close`
abbrev pub obligations : PlainNet → Property → Certificate → List Obligation
obligations net property certificate =
    flat_map (λ flow. map (λ transition. record { spot = Step flow.0 transition.0; check = flow_check net flow.1 transition.1 })
    (enumerate_from 0 net.transitions)) (enumerate_from 0 certificate.flows)
    ++ record { spot = Close; check = close_check net property certificate } ∷ []

abbrev pub is_true : Check → Bool
is_true check.True = true
is_true check.False = false
is_true check.Wide = false

-- what the first obligation that isn't true says
abbrev pub judged_by : Option Obligation → Judged
judged_by None = Shown
judged_by (Some obligation) = verdict obligation.check
  where
    verdict : Check → Judged
    verdict check.True = Shown
    verdict check.False = NotShown obligation.spot
    verdict check.Wide = Range obligation.spot

abbrev pub judgement : PlainNet → Property → Certificate → Judged
judgement net property certificate = judged_by (find (λ obligation. not (is_true obligation.check)) (obligations net property certificate))
