use Rattle.doc_tree.proofs.TakenTokens.{if_ok}
use Rattle.doc_tree.proofs.tokens.take_token.Goals as goal

pub returns-in-Blank-clause-read : goal.returns-in-Blank-clause-read
returns-in-Blank-clause-read c = if_ok c.take_attribute.result _ _ (λ n read b h. read c.args.root.now c.args.at b h) c.take_attribute.ensures.read

pub returns-in_default : goal.returns-in_default
returns-in_default c = record {
  within = c.take_run.ensures.within;
  read = if_ok c.take_run.result _ _ (λ n read b h. read c.args.root.now c.args.at b h) c.take_run.ensures.read;
}
