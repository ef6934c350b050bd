use Rattle.std.proofs.Common.{◌≡◌, map, drop, length}
use Rattle.colour_sorts.specs.Colours.{colours, tuples}
use Rattle.colour_sorts.proofs.Tuples.{IsFound}
use Rattle.colour_sorts.proofs.domains.Domains.+reading.Given as goal

abbrev pub invariant-tuple_at-loop-part : goal.invariant-tuple_at-loop-part
invariant-tuple_at-loop-part l = record {
  rests : l.rests ≡ length (tuples (map (colours l.fn.self.constants) (drop l.part-index l.parts)));
  found : IsFound l.fn.index l.place (tuples (map (colours l.fn.self.constants) l.parts)) (tuples (map (colours l.fn.self.constants) (drop l.part-index l.parts))) l.components.items;
}
