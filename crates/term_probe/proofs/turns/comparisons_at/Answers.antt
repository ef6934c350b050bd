use Rattle.multiset_terms.proofs.Using.{can-judge}
use Rattle.term_probe.proofs.turns.comparisons_at.Goals as goal

pub comparisons_in_turns-requires : goal.comparisons_in_turns-requires
comparisons_in_turns-requires c =
    can-judge c.args.scope.now.domains c.args.scope.now.variables c.args.guard.now c.in-Ok.compiled c.args.indices.now
    c.requires c.in-Ok.ensures c.if-not-is_binding.ensures.yes
