use Rattle.multiset_terms.proofs.LeafMakers.{constant-part}
use Rattle.multiset_terms.proofs.leaves.constant.Goals as goal

pub returns : goal.returns
returns c = λ ctx marking t colour distinct is sized here.
    constant-part ctx marking t c.args.sort colour c.args.size c.args.index distinct is.is is.closed is.means sized.is sized.limit here
