use Rattle.std.proofs.Common.{ℕ, take}
use Rattle.wide_sums.specs.Cells.{amount}
use Rattle.multiset_terms.specs.Buffers.{Gains}
use Rattle.multiset_terms.specs.Rows.{AreBelow, total}
use Rattle.multiset_terms.proofs.buffers.add_row.Given as goal

abbrev pub invariant-loop-cell : goal.invariant-loop-cell
invariant-loop-cell l = (size : ℕ) → AreBelow size l.row → Gains l.scale size (λ q. amount q (take l.cell-index l.row)) (total (take l.cell-index l.row)) l.fn.cells.items l.cells.items
