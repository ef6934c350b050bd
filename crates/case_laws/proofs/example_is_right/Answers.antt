use Rattle.case_laws.proofs.example_is_right.Goals as goal
use Rattle.case_laws.proofs.Example.{example}

pub returns : goal.returns
returns c = example
