use Rattle.std.proofs.Common.{◌≡◌, ◌++◌, take, flat_map}
use Rattle.plain_text.specs.PropertyParts.{listed_place}
use Rattle.plain_text.proofs.property_pieces.put_places.Given as goal

abbrev pub invariant-loop-id : goal.invariant-loop-id
invariant-loop-id l = l.comparison ≡ l.fn.comparison ++ flat_map listed_place (take l.id-index l.ids)
