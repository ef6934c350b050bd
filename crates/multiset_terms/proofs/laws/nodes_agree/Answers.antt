use Rattle.multiset_terms.proofs.Nodes.{nodes-agree}
use Rattle.multiset_terms.proofs.TupleNodes.{tuple-nodes-agree}
use Rattle.multiset_terms.proofs.laws.nodes_agree.Goals as goal

pub returns-clause-nodes : goal.returns-clause-nodes
returns-clause-nodes c = nodes-agree

pub returns-clause-tuples : goal.returns-clause-tuples
returns-clause-tuples c = tuple-nodes-agree
