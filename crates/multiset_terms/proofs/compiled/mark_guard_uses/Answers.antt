use Rattle.multiset_terms.specs.Conditions.{condition_uses_at}
use Rattle.multiset_terms.specs.Standing.{occurs_in_guard}
use Rattle.multiset_terms.proofs.Conjunctions.{itself}
use Rattle.multiset_terms.proofs.Marking.{names-marked}
use Rattle.multiset_terms.proofs.compiled.mark_guard_uses.Goals as goal

pub returns-clause-names : goal.returns-clause-names
returns-clause-names c = λ ctx g known.
    names-marked ctx.variables.ids (λ v. condition_uses_at v c.args.guard.now) (λ id. occurs_in_guard id g) c.args.marks.now c.mark_condition.new.marks (itself known).variables c.mark_condition.ensures
