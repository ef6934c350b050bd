use Rattle.multiset_terms.proofs.Distinct.{once-sort}
use Rattle.multiset_terms.proofs.laws.colours_stand_once.Goals as goal

pub returns : goal.returns
returns c = once-sort
