use Rattle.plain_text.proofs.Pieces.{three}
use Rattle.plain_text.proofs.net_pieces.put_full_page.Goals as goal

pub returns : goal.returns
returns c = three _ _ _ _ c.in_ok-put.ensures c.in_ok-put_nodes.ensures c.in_ok-put-2.ensures
