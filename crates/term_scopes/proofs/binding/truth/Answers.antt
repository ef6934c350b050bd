use Rattle.multiset_terms.proofs.Using.{can-judge}
use Rattle.term_scopes.proofs.binding.truth.Goals as goal

pub holds-requires : goal.holds-requires
holds-requires c =
    can-judge c.args.scope.now.domains c.args.scope.now.variables c.args.guard.now c.in-Ok.compiled c.args.indices.now
    c.requires c.in-Ok.ensures c.if-not-is_binding.ensures.yes
