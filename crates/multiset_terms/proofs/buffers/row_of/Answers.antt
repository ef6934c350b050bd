use Rattle.std.proofs.Common.{get_or, take, subst, sym}
use Rattle.multiset_terms.specs.Rows.{AreBelow, no_cell}
use Rattle.multiset_terms.proofs.Joining.{front-below}
use Rattle.multiset_terms.proofs.buffers.row_of.Goals as goal

pub push-requires-clause-greater : goal.push-requires-clause-greater
push-requires-clause-greater c =
    subst (AreBelow (get_or c.args.cells.now c.loop-cell.cell-index no_cell).at) (sym c.loop-cell.invariant)
    (front-below c.args.cells.now c.loop-cell.cell-index no_cell c.requires.rising c.loop-cell-test.true)
