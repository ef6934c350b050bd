use Rattle.std.proofs.Common.{take}
use Rattle.plain_judge.specs.Examining.{AreExamined}
use Rattle.plain_judge.proofs.examining.are_multipliers.Given as goal

abbrev pub invariant-loop-multiplier : goal.invariant-loop-multiplier
invariant-loop-multiplier l = AreExamined l.names (take l.multiplier-index l.close) l.marks l.is_hypothesis_met
