use Rattle.std.proofs.Common.{◌≡◌}
use Rattle.net_elements.specs.Walking.{found}
use Rattle.net_elements.proofs.Walks.{left_notes}
use Rattle.net_elements.proofs.walker.Walker.+walking.Given as goal

abbrev pub invariant-children-loop-at : goal.invariant-children-loop-at
invariant-children-loop-at l = found l.self (left_notes l.kind l.role l.children l.at) ≡ found l.fn.self (left_notes l.kind l.role l.children 0)
