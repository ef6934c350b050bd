use Rattle.std.proofs.Common.{◌≡◌, take}
use Rattle.wide_sums.specs.Total.{joined, total_of}
use Rattle.plain_judge.specs.Cells.{cell_terms}
use Rattle.plain_judge.proofs.steps.add_cells.Given as goal

abbrev pub invariant-loop-cell : goal.invariant-loop-cell
invariant-loop-cell l = l.sum ≡ joined l.fn.sum (total_of (cell_terms l.is_taken l.coefficients (take l.cell-index l.cells)))
