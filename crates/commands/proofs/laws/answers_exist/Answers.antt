use Rattle.commands.proofs.One.{exists}
use Rattle.commands.proofs.laws.answers_exist.Goals as goal

pub returns : goal.returns
returns c = exists c.documents_have_one_answer.ensures
