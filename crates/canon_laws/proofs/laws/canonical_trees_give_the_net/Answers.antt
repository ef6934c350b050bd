use Rattle.canon_laws.proofs.Nodes.{tree_back}
use Rattle.canon_laws.proofs.laws.canonical_trees_give_the_net.Goals as goal

pub returns : goal.returns
returns c = tree_back
