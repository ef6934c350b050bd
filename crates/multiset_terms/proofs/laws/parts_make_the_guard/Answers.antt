use Rattle.multiset_terms.proofs.Depending.{parts-make}
use Rattle.multiset_terms.proofs.laws.parts_make_the_guard.Goals as goal

pub returns : goal.returns
returns c = parts-make
