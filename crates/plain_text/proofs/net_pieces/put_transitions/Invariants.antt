use Rattle.std.proofs.Common.{◌≡◌, ◌++◌, take, flat_map}
use Rattle.plain_text.specs.NetParts.{transition_text}
use Rattle.plain_text.proofs.net_pieces.put_transitions.Given as goal

abbrev pub invariant-loop-transition : goal.invariant-loop-transition
invariant-loop-transition l = l.comparison ≡ l.fn.comparison ++ flat_map transition_text (take l.transition-index l.transitions)
