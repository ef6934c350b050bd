use Rattle.std.proofs.Common.{◌+◌, drop, map, ap, ◌∙◌}
use Rattle.linear_cert.specs.Fitting.{plus_all}
use Rattle.linear_cert.specs.Checks.{cell_term}
use Rattle.linear_cert.specs.Sparse.{coefficient_in}
use Rattle.linear_cert.proofs.Adding.{plus_all-more}
use Rattle.linear_cert.proofs.tallies.plus_row.Goals as goal

pub loop-cell-preserved : goal.loop-cell-preserved
loop-cell-preserved c =
    let f = cell_term c.args.is_taken (coefficient_in c.args.form.now.terms) in
    ap (λ s. plus_all s (map f (drop (c.loop-cell.cell-index + 1) c.args.cells.now))) c.plus_cell-sum.ensures
    ∙ plus_all-more f c.loop-cell.sum c.args.cells.now c.loop-cell.cell-index (record { at = 0; count = 0 }) c.loop-cell-test.true
    ∙ c.loop-cell.invariant
