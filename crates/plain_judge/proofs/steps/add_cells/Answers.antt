use Rattle.std.proofs.Common.{◌<◌, ◌^◌, length, arith}
use Rattle.plain_judge.proofs.Terms.{joined_next, wide_on_the_way}
use Rattle.plain_judge.proofs.steps.add_cells.Goals as goal

pub returns-in-Err-clause-wide : goal.returns-in-Err-clause-wide
returns-in-Err-clause-wide c =
    let within : c.loop-cell.cell-index < length c.args.cells.now = omega arith in
    wide_on_the_way c.args.sum.now c.loop-cell.sum c.args.is_taken c.args.coefficients.now c.args.cells.now c.loop-cell.cell-index _ (2 ^ 127) within
    c.loop-cell.invariant c.in-Err.ensures.wide

pub loop-cell-preserved : goal.loop-cell-preserved
loop-cell-preserved c =
    let within : c.loop-cell.cell-index < length c.args.cells.now = omega arith in
    joined_next c.args.sum.now c.loop-cell.sum c.add_cell.new.sum c.args.is_taken c.args.coefficients.now c.args.cells.now c.loop-cell.cell-index _ within
    c.loop-cell.invariant c.in-Ok.ensures.added
