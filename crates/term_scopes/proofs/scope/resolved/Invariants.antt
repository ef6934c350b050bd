use Rattle.multiset_terms.specs.Parts.{AreSized}
use Rattle.term_scopes.proofs.scope.resolved.Given as goal

abbrev pub invariant-loop-variable : goal.invariant-loop-variable
invariant-loop-variable l = AreSized l.domains.constants l.sorts.items
