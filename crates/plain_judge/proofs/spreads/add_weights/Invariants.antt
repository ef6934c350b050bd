use Rattle.std.proofs.Common.{take}
use Rattle.plain_model.specs.Forms.{weight_on}
use Rattle.plain_judge.specs.Coefficients.{Raises}
use Rattle.plain_judge.proofs.spreads.add_weights.Given as goal

abbrev pub invariant-loop-at : goal.invariant-loop-at
invariant-loop-at l = Raises l.flow.ids (weight_on (take l.at l.flow.flow.weights)) l.fn.coefficients l.coefficients
