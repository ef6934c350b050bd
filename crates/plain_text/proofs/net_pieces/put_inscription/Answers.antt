use Rattle.plain_text.proofs.Pieces.{three}
use Rattle.plain_text.specs.NetParts.{inscription_text}
use Rattle.plain_text.proofs.net_pieces.put_inscription.Goals as goal

pub returns : goal.returns
unfolding inscription_text
returns c = three _ _ _ _ c.in_ok-put.ensures c.in_ok-put_number_leaf.ensures c.in_ok-put-2.ensures
