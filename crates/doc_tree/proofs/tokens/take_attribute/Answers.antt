use Rattle.doc_tree.proofs.TakenTokens.{if_ok}
use Rattle.doc_tree.proofs.tokens.take_attribute.Goals as goal

pub returns-in-Some-clause-read : goal.returns-in-Some-clause-read
returns-in-Some-clause-read c = if_ok c.take_pair.result _ _ (λ n read r at b h. read c.args.opens.now r at b h) c.take_pair.ensures.read
