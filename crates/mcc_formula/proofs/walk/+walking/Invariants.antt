use Rattle.std.proofs.Common.{◌≡◌}
use Rattle.mcc_formula.specs.Layouts.{nodes_of}
use Rattle.mcc_formula.proofs.Walks.{left}
use Rattle.mcc_formula.proofs.walk.+walking.Given as goal

abbrev pub invariant-children-loop-at : goal.invariant-children-loop-at
invariant-children-loop-at l = left (nodes_of l.layout) l.part l.children l.at ≡ left (nodes_of l.layout) l.part l.children 0
