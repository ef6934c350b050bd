use Rattle.multiset_terms.proofs.Using.{bound-by-sizes, built-usable, usable-declared}
use Rattle.multiset_terms.proofs.laws.declarations_can_be_used.Goals as goal

pub returns-clause-built : goal.returns-clause-built
returns-clause-built c = built-usable

pub returns-clause-declared : goal.returns-clause-declared
returns-clause-declared c = usable-declared

pub returns-clause-bound : goal.returns-clause-bound
returns-clause-bound c = bound-by-sizes
