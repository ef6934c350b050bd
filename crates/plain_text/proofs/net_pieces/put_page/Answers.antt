use Rattle.plain_text.proofs.net_pieces.put_page.Goals as goal

pub returns-else-has_nodes : goal.returns-else-has_nodes
returns-else-has_nodes c = rw c.if-has_nodes.ensures c.put.ensures
