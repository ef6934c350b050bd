use Rattle.std.proofs.Common.{◌≡◌, map, drop}
use Rattle.linear_cert.specs.Fitting.{plus_all}
use Rattle.linear_cert.specs.Checks.{cell_term}
use Rattle.linear_cert.specs.Sparse.{coefficient_in}
use Rattle.linear_cert.proofs.tallies.plus_row.Given as goal

-- adding the terms of the cells that are left comes to the same
abbrev pub invariant-loop-cell : goal.invariant-loop-cell
invariant-loop-cell l =
    plus_all l.sum (map (cell_term l.is_taken (coefficient_in l.form.terms)) (drop l.cell-index l.cells))
    ≡ plus_all l.fn.sum (map (cell_term l.is_taken (coefficient_in l.form.terms)) l.cells)
