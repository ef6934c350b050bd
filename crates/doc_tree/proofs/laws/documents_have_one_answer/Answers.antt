use Rattle.doc_tree.proofs.OneAnswer.{have_one_answer}
use Rattle.doc_tree.proofs.laws.documents_have_one_answer.Goals as goal

pub returns : goal.returns
returns c = have_one_answer
