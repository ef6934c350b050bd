use Rattle.multiset_terms.proofs.Using.{built-usable}
use Rattle.term_scopes.proofs.scope.declared.Goals as goal

pub returns-in-Ok-variables_of : goal.returns-in-Ok-variables_of
returns-in-Ok-variables_of c =
    built-usable c.in-Ok.domains c.args.sorts.now c.args.partitions.now c.in-Ok-variables_of.variables c.in-Ok.ensures.0 c.in-Ok.ensures.1
    c.in-Ok-variables_of.ensures.distinct c.in-Ok-variables_of.ensures.even c.in-Ok-variables_of.ensures.sized
