use Rattle.std.proofs.Common.{◌≡◌, ◌≤◌, drop, length, pos, replicate, All}
use Rattle.plain_judge.specs.Judging.{flows_judged}
use Rattle.plain_judge.proofs.Order.{flows_from}
use Rattle.plain_judge.proofs.flows.judge_each.Given as goal

abbrev pub invariant-loop-number : goal.invariant-loop-number
invariant-loop-number l =
    (flows_judged l.net l.flows.flows ≡ flows_from l.net l.number (drop l.number l.flows.flows))
    × (l.coefficients ≡ replicate (length l.flows.ids) (pos 0))
    × All (λ other. other ≤ l.number) l.marks
