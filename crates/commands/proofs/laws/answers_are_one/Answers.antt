use Rattle.commands.proofs.One.{once}
use Rattle.commands.proofs.laws.answers_are_one.Goals as goal

pub returns : goal.returns
returns c = once c.documents_have_one_answer.ensures
