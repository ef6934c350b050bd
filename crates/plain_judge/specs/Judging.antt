-- Obligations judged in order.
use Rattle.std.specs.Prelude.{ℕ, ◌+◌, List, [], ◌∷◌, map, flat_map, find, not, length, ℤ}
use Rattle.std.specs.List.{enumerate_from}
use Rattle.pt_net.specs.declared.instances.Instance.{Instance}
use Rattle.plain_model.specs.declared.nets.PlainNet.{PlainNet}
use Rattle.plain_model.specs.declared.certificates.Flow.{Flow}
use Rattle.plain_model.specs.declared.verdicts.Check.{Check}
use Rattle.plain_model.specs.declared.verdicts.Check.TheVariants as check
use Rattle.plain_model.specs.declared.verdicts.Spot.{Spot}
use Rattle.plain_model.specs.declared.verdicts.Spot.TheVariants.{Step}
use Rattle.plain_model.specs.declared.verdicts.Judged.{Judged}
use Rattle.plain_model.specs.declared.verdicts.Judged.TheVariants.{Shown, NotShown, Range}
use Rattle.plain_model.specs.Obligations.{Obligation, step_check, flow_check, is_true, judged_by}
use Rattle.pt_net.specs.Markings.{counts_of}

-- what these obligations show, in order
abbrev pub all_judged : List Obligation → Judged
all_judged obligations = judged_by (find (λ obligation. not (is_true obligation.check)) obligations)

-- what one obligation says, and then the next ones
abbrev pub then_judged : Spot → Check → Judged → Judged
then_judged spot check.True next = next
then_judged spot check.False next = NotShown spot
then_judged spot check.Wide next = Range spot

-- what the step of a flow at a transition says
abbrev pub step_judged : ℕ → ℕ → Check → Judged
step_judged flow transition verdict = then_judged (Step flow transition) verdict Shown

-- the steps of a flow from a transition on
abbrev pub judged_rows : ℕ → ℕ → List Check → Judged
judged_rows flow transition [] = Shown
judged_rows flow transition (first ∷ checks) = then_judged (Step flow transition) first (judged_rows flow (transition + 1) checks)

-- whether the instance keeps the weighted sum
abbrev pub instance_check : List ℤ → Instance → Check
instance_check coefficients t = step_check coefficients (counts_of (length coefficients) t.pre) (counts_of (length coefficients) t.post)

abbrev pub row_checks : List ℤ → List Instance → List Check
row_checks coefficients instances = map (instance_check coefficients) instances

-- the steps of the flow with this number
abbrev pub steps : PlainNet → ℕ → Flow → List Obligation
steps net number flow = map (λ transition. record { spot = Step number transition.0; check = flow_check net flow transition.1 }) (enumerate_from 0 net.transitions)

-- the steps of all flows
abbrev pub flows_judged : PlainNet → List Flow → Judged
flows_judged net flows = all_judged (flat_map (λ flow. steps net flow.0 flow.1) (enumerate_from 0 flows))
