use Rattle.multiset_terms.proofs.LeafMakers.{empty-part}
use Rattle.multiset_terms.proofs.leaves.empty.Goals as goal

pub returns : goal.returns
returns c = λ ctx marking t distinct is sized.
    empty-part ctx marking t c.args.sort c.args.size distinct is.is is.closed is.means sized.is sized.some sized.limit
