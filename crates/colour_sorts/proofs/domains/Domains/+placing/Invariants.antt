use Rattle.std.proofs.Common.{map, drop}
use Rattle.colour_sorts.specs.Colours.{colours, tuples}
use Rattle.colour_sorts.proofs.Tuples.{IsRead}
use Rattle.colour_sorts.proofs.domains.Domains.+placing.Given as goal

abbrev pub invariant-tuple_index-loop-at : goal.invariant-tuple_index-loop-at
invariant-tuple_index-loop-at l =
    IsRead l.index (tuples (map (colours l.fn.self.constants) l.parts)) (tuples (map (colours l.fn.self.constants) (drop l.at l.parts))) l.components (drop l.at l.components)
