use Rattle.std.proofs.Common.{false}
use Rattle.multiset_terms.proofs.Using.{can-evaluate}
use Rattle.term_scopes.proofs.binding.value.Goals as goal

pub eval-requires : goal.eval-requires
eval-requires c =
    can-evaluate c.args.scope.now.domains c.args.scope.now.variables false c.args.term.now c.in-Ok.compiled c.is_block.result c.args.indices.now
    c.requires c.in-Ok.ensures c.is_block.ensures c.if-is_block.false c.if-not-is_binding.ensures.yes
