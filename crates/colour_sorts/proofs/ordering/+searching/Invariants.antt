use Rattle.std.proofs.Common.{◌≡◌, ◌++◌, map, take}
use Rattle.std.specs.Prelude.{flat_map}
use Rattle.colour_sorts.specs.Searching.{places_named}
use Rattle.colour_sorts.specs.declared.ordering.Turn.TheVariants.{Enter}
use Rattle.colour_sorts.proofs.ordering.+searching.Given as goal

abbrev pub invariant-push_parts-loop-part : goal.invariant-push_parts-loop-part
invariant-push_parts-loop-part l = l.waiting.items ≡ l.fn.waiting.items ++ map Enter (flat_map (places_named l.ids) (take l.part-index l.parts))
