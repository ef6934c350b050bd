use Rattle.std.proofs.Common.{◌≡◌}
use Rattle.net_elements.specs.Walking.{found}
use Rattle.mcc_formula.proofs.LeftNotes.{left_parts}
use Rattle.mcc_formula.proofs.sets.Walker.parts.Given as goal

abbrev pub invariant-loop-at : goal.invariant-loop-at
invariant-loop-at l = found l.self (left_parts l.children l.at) ≡ found l.fn.self (left_parts l.children 0)
