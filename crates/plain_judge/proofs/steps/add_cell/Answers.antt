use Rattle.std.proofs.Common.{get_or, pos, rules, FitsSigned, w64}
use mir.Facts.{to_z-of_z}
use Rattle.plain_judge.proofs.steps.add_cell.Goals as goal

pub returns-clause-added : goal.returns-clause-added
returns-clause-added c =
    let fits : FitsSigned w64 (get_or c.args.coefficients.now c.args.cell.at (pos 0)) = search rules in
    simp to_z-of_z at c.add_term.ensures.added

pub returns-clause-wide : goal.returns-clause-wide
returns-clause-wide c =
    let fits : FitsSigned w64 (get_or c.args.coefficients.now c.args.cell.at (pos 0)) = search rules in
    simp to_z-of_z at c.add_term.ensures.wide
