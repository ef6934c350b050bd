use Rattle.std.proofs.Common.{[], codes, flat_map}
use Rattle.plain_text.specs.PropertyParts.{listed_place}
use Rattle.plain_text.proofs.Nonempty.{element-some, flat_map-some, listed_place-some, some_length}
use Rattle.plain_text.proofs.property_pieces.put_tokens.Goals as goal

pub returns-else-is_empty : goal.returns-else-is_empty
returns-else-is_empty c =
    let ids = c.args.ids.now in
    rw (element-some (codes "tokens-count") [] (flat_map listed_place ids) (flat_map-some listed_place ids listed_place-some (some_length _ c.if-is_empty.ensures))) c.put_some_tokens.ensures
