use Rattle.multiset_terms.proofs.Scopes.{built-scope}
use Rattle.multiset_terms.proofs.laws.built_declarations_are_a_scope.Goals as goal

pub returns : goal.returns
returns c = built-scope
