use Rattle.std.proofs.Common.{◌≡◌, ◌++◌, map, take}
use Rattle.net_nodes.proofs.names.add_transitions.Given as goal

abbrev pub invariant-loop-transition : goal.invariant-loop-transition
invariant-loop-transition l = l.ids ≡ l.fn.ids ++ map (λ x. x.id) (take l.transition-index l.transitions)
