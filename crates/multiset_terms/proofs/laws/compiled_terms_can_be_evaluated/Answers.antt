use Rattle.multiset_terms.proofs.Using.{can-add, can-evaluate, can-judge}
use Rattle.multiset_terms.proofs.laws.compiled_terms_can_be_evaluated.Goals as goal

pub returns-clause-evaluated : goal.returns-clause-evaluated
returns-clause-evaluated c = can-evaluate

pub returns-clause-added : goal.returns-clause-added
returns-clause-added c = can-add

pub returns-clause-judged : goal.returns-clause-judged
returns-clause-judged c = can-judge
