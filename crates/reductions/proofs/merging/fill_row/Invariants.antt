use Rattle.std.proofs.Common.{◌≡◌, take}
use Rattle.reductions.specs.Reduced.{row_on}
use Rattle.reductions.specs.Merging.{stays}
use Rattle.reductions.proofs.merging.fill_row.Given as goal

abbrev pub invariant-loop-cell : goal.invariant-loop-cell
invariant-loop-cell l = l.found.items ≡ row_on (stays l.constant) (take l.cell-index l.row)
