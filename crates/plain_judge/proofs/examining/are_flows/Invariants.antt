use Rattle.std.proofs.Common.{◌≡◌, take, length, All}
use Rattle.plain_model.specs.Plain.{IsPlainFlow}
use Rattle.plain_judge.proofs.examining.are_flows.Given as goal

abbrev pub invariant-loop-number : goal.invariant-loop-number
invariant-loop-number l = (length l.marks ≡ length l.flows.ids) × All (IsPlainFlow l.flows.ids) (take l.number l.flows.flows)
