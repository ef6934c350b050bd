use Rattle.std.proofs.Common.{◌+◌, ◌^◌, ◌<◌, take}
use Rattle.std.specs.Prelude.{All, slice_index}
use Rattle.wide_sums.specs.Cells.{amount}
use Rattle.pt_net.proofs.markings.has_room.Given as goal

abbrev pub invariant-loop-cell : goal.invariant-loop-cell
invariant-loop-cell l = All (λ c. slice_index l.counts c.at + c.count < 2 ^ 63 + amount c.at l.pre) (take l.cell-index l.post)
