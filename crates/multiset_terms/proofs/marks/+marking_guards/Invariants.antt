use Rattle.std.proofs.Common.{Bool, List, drop}
use Rattle.multiset_terms.specs.Conditions.{some_condition_uses}
use Rattle.multiset_terms.specs.Marked.{AreMarked}
use Rattle.multiset_terms.proofs.marks.+marking_guards.Given as goal

-- what the rest marks, the whole marks
abbrev pub invariant-mark_conditions-loop-condition : goal.invariant-mark_conditions-loop-condition
invariant-mark_conditions-loop-condition l = (new : List Bool) → AreMarked (λ v. some_condition_uses v (drop l.condition-index l.conditions)) l.marks new → AreMarked (λ v. some_condition_uses v l.conditions) l.fn.marks new
