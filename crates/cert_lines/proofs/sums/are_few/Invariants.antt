use Rattle.std.proofs.Common.{◌≡◌, ◌<◌, ◌^◌, map, take}
use Rattle.std.specs.Prelude.{sum_by}
use Rattle.cert_lines.proofs.sums.are_few.Given as goal

abbrev pub invariant-loop-item : goal.invariant-loop-item
invariant-loop-item g l = (l.total ≡ sum_by (λ x. x.1) (take l.item-index (map g.T.Valued.amount l.items))) × (l.total < 2 ^ 63)
