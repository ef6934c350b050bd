use Rattle.std.proofs.Common.{◌≡◌}
use Rattle.mcc_formula.proofs.ByPlace.{place_from}
use Rattle.mcc_formula.proofs.reading.place_of.Given as goal

abbrev pub invariant-loop-at : goal.invariant-loop-at
invariant-loop-at l = place_from l.name l.list l.at ≡ place_from l.name l.list 0
