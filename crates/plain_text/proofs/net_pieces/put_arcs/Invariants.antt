use Rattle.std.proofs.Common.{◌≡◌, ◌++◌, take, flat_map}
use Rattle.plain_text.specs.NetParts.{arc_text}
use Rattle.plain_text.proofs.net_pieces.put_arcs.Given as goal

abbrev pub invariant-loop-arc : goal.invariant-loop-arc
invariant-loop-arc l = l.comparison ≡ l.fn.comparison ++ flat_map arc_text (take l.arc-index l.arcs)
