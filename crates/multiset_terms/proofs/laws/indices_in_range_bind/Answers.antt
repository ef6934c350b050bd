use Rattle.multiset_terms.proofs.Scopes.{indices-bind}
use Rattle.multiset_terms.proofs.laws.indices_in_range_bind.Goals as goal

pub returns : goal.returns
returns c = indices-bind
