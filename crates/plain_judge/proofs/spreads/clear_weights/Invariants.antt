use Rattle.plain_judge.proofs.FirstFailing.{AreCleared}
use Rattle.plain_judge.proofs.spreads.clear_weights.Given as goal

abbrev pub invariant-loop-at : goal.invariant-loop-at
invariant-loop-at l = AreCleared l.flow.ids l.flow.flow.weights l.at l.coefficients
