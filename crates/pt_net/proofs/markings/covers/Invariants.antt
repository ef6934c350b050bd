use Rattle.std.proofs.Common.{◌≤◌, take}
use Rattle.std.specs.Prelude.{All, slice_index}
use Rattle.pt_net.proofs.markings.covers.Given as goal

abbrev pub invariant-loop-cell : goal.invariant-loop-cell
invariant-loop-cell l = All (λ c. c.count ≤ slice_index l.counts c.at) (take l.cell-index l.row)
