use Rattle.std.proofs.Common.{◌≡◌, length}
use Rattle.wide_sums.specs.Total.{joined}
use Rattle.plain_judge.specs.Residuals.{AreInRange}
use Rattle.plain_judge.proofs.FirstFailing.{AreCleared}
use Rattle.plain_judge.proofs.Settled.{WillAdd, constant_of}
use Rattle.plain_judge.proofs.settling.settle_weights.Given as goal

abbrev pub invariant-loop-at : goal.invariant-loop-at
invariant-loop-at l =
    AreCleared l.flow.ids l.flow.flow.weights l.at l.coefficients
    × WillAdd l.multiplier l.fn.coefficients l.fn.sums l.coefficients l.sums
    × AreInRange (length l.flow.ids) l.sums
    × (joined l.constant (constant_of l.coefficients l.places) ≡ constant_of l.fn.coefficients l.places)
