use Rattle.std.proofs.Common.{take}
use Rattle.plain_judge.specs.Numbered.{AreNumbersOf}
use Rattle.plain_judge.proofs.naming.places_of.Given as goal

abbrev pub invariant-loop-weight : goal.invariant-loop-weight
invariant-loop-weight l = AreNumbersOf l.ids (take l.weight-index l.weights) l.places
