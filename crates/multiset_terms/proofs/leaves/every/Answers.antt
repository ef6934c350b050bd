use Rattle.std.proofs.Common.{subst}
use Rattle.multiset_terms.specs.Parts.{IsLeaf}
use Rattle.multiset_terms.specs.declared.kinds.Kind.TheVariants as kind
use Rattle.multiset_terms.proofs.LeafMakers.{every-part}
use Rattle.multiset_terms.proofs.leaves.every.Goals as goal

pub returns : goal.returns
returns c = λ ctx marking t distinct is sized.
    every-part ctx marking t c.args.sort c.args.size distinct (subst (IsLeaf ctx marking t (kind.Every c.args.sort)) sized.is is.is) is.closed is.means sized.is sized.some sized.limit
