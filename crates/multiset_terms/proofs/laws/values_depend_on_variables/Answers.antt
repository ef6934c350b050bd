use Rattle.multiset_terms.proofs.Depending.{truth-depends, values-depend}
use Rattle.multiset_terms.proofs.laws.values_depend_on_variables.Goals as goal

pub returns-clause-values : goal.returns-clause-values
returns-clause-values c = values-depend

pub returns-clause-truths : goal.returns-clause-truths
returns-clause-truths c = truth-depends
