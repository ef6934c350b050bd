use Rattle.doc_model.proofs.TextLaws.{document_text-example}
use Rattle.doc_model.proofs.tests.example_text.Goals as goal

pub returns : goal.returns
returns c = document_text-example
