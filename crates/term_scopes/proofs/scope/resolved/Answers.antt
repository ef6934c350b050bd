use Rattle.std.proofs.Common.{sym, subst}
use Rattle.multiset_terms.specs.Parts.{AreSized}
use Rattle.multiset_terms.proofs.Asked.{found-size}
use Rattle.multiset_terms.proofs.Using.{sized-more}
use Rattle.term_scopes.proofs.scope.resolved.Goals as goal

pub loop-variable-preserved : goal.loop-variable-preserved
loop-variable-preserved c =
    let d = c.args.domains.now in
    let s = c.in-Ok.sort in
    let known = c.in-Ok.ensures.resolved c.requires.sorts c.requires.partitions c.requires.stands in
    subst (AreSized d.constants) (sym c.in_default.ensures.items)
    (sized-more d.constants c.loop-variable.sorts.items s c.loop-variable.invariant (found-size d c.requires.sorts c.requires.partitions c.variable-item.result.sort s c.requires.stands known.0 known.1))
