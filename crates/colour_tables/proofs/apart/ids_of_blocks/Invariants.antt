use Rattle.std.proofs.Common.{◌≡◌, map, take}
use Rattle.colour_tables.proofs.apart.ids_of_blocks.Given as goal

abbrev pub invariant-loop-element : goal.invariant-loop-element
invariant-loop-element l = l.ids.items ≡ map (λ element. element.id) (take l.element-index l.elements)
