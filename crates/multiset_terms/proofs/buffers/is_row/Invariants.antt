use Rattle.std.proofs.Common.{take}
use Rattle.wide_sums.specs.Cells.{IsRow}
use Rattle.multiset_terms.specs.Rows.{AreBelow}
use Rattle.multiset_terms.proofs.buffers.is_row.Given as goal

-- what was read is a row in front of `next`
abbrev pub invariant-loop-cell : goal.invariant-loop-cell
invariant-loop-cell l = record {
  front : IsRow (take l.cell-index l.cells);
  next : AreBelow l.next (take l.cell-index l.cells);
}
