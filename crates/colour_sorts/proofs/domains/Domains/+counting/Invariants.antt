use Rattle.std.proofs.Common.{◌≡◌, ◌*◌, length, map, drop}
use Rattle.colour_sorts.specs.Colours.{colours, tuples}
use Rattle.colour_sorts.proofs.domains.Domains.+counting.Given as goal

abbrev pub invariant-tuple_count-loop-part : goal.invariant-tuple_count-loop-part
invariant-tuple_count-loop-part l =
    l.count * length (tuples (map (colours l.fn.self.constants) (drop l.part-index l.parts))) ≡ length (tuples (map (colours l.fn.self.constants) l.parts))
