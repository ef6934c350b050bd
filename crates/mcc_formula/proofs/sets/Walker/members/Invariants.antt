use Rattle.std.proofs.Common.{◌≡◌}
use Rattle.net_elements.specs.Walking.{found}
use Rattle.mcc_formula.proofs.LeftNotes.{left_members}
use Rattle.mcc_formula.proofs.sets.Walker.members.Given as goal

abbrev pub invariant-loop-child : goal.invariant-loop-child
invariant-loop-child l = found l.self (left_members l.children l.child-index) ≡ found l.fn.self (left_members l.children 0)
