use Rattle.multiset_terms.proofs.LeafMakers.{element-part}
use Rattle.multiset_terms.proofs.leaves.element.Goals as goal

pub returns : goal.returns
returns c = λ ctx marking t is. element-part ctx marking t c.args.partition c.args.block is
