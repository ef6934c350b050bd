use Rattle.std.proofs.Common.{◌≡◌, ◌<◌, ◌^◌, sum_by, take}
use Rattle.net_typing.specs.Weights.{gross_of_arc}
use Rattle.net_typing.proofs.weights.are_few.Given as goal

abbrev pub invariant-loop-arc : goal.invariant-loop-arc
invariant-loop-arc l = (l.total ≡ sum_by gross_of_arc (take l.arc-index l.arcs)) × (l.total < 2 ^ 63)
