use Rattle.net_model.specs.declared.terms.Term.TheVariants as written
use Rattle.colour_sorts.specs.declared.sorts.Colour.TheVariants as colour
use Rattle.multiset_terms.proofs.LeafMakers.{dot-constant, dot-here, dot-sized}
use Rattle.multiset_terms.proofs.leaves.dot.Goals as goal

pub returns : goal.returns
returns c = λ ctx marking distinct. c.constant.ensures ctx marking written.Dot colour.Dot distinct (dot-constant ctx marking) (dot-sized ctx) (dot-here ctx)
