use Rattle.doc_tree.proofs.Written.{written_is_spelled}
use Rattle.doc_tree.proofs.laws.written_text_is_spelled.Goals as goal

pub returns : goal.returns
returns c = written_is_spelled
