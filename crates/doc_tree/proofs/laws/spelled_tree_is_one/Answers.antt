use Rattle.doc_tree.proofs.Answering.{one_tree}
use Rattle.doc_tree.proofs.laws.spelled_tree_is_one.Goals as goal

pub returns : goal.returns
returns c = one_tree
