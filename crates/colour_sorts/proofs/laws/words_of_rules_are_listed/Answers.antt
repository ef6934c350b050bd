use Rattle.colour_sorts.proofs.Worded.{listed}
use Rattle.colour_sorts.proofs.laws.words_of_rules_are_listed.Goals as goal

pub returns : goal.returns
returns c = listed
