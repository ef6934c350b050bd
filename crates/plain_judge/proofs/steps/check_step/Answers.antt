use Rattle.std.proofs.Common.{◌∙◌}
use Rattle.plain_judge.proofs.Order.{cells_check-counts}
use Rattle.plain_judge.proofs.steps.check_step.Goals as goal

pub returns : goal.returns
returns c = c.check_cells.ensures ∙ cells_check-counts c.args.coefficients.now c.args.taken.now c.args.put.now c.requires.taken c.requires.put
