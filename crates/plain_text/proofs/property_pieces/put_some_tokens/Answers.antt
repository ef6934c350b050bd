use Rattle.plain_text.proofs.Pieces.{three}
use Rattle.plain_text.proofs.property_pieces.put_some_tokens.Goals as goal

pub returns : goal.returns
returns c = three _ _ _ _ c.in_ok-put.ensures c.in_ok-put_places.ensures c.in_ok-put-2.ensures
