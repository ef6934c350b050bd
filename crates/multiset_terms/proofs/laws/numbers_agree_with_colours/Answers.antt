use Rattle.multiset_terms.proofs.Agreement.{lists-agree, products-agree}
use Rattle.multiset_terms.proofs.laws.numbers_agree_with_colours.Goals as goal

pub returns-clause-colours : goal.returns-clause-colours
returns-clause-colours c = lists-agree

pub returns-clause-tuples : goal.returns-clause-tuples
returns-clause-tuples c = products-agree
