use Rattle.std.proofs.Common.{◌≡◌, drop}
use Rattle.multiset_terms.specs.Conditions.{some_condition_uses}
use Rattle.multiset_terms.proofs.conditions.+looking.Given as goal

abbrev pub invariant-any_uses-loop-part : goal.invariant-any_uses-loop-part
invariant-any_uses-loop-part l = some_condition_uses l.variable (drop l.part-index l.parts) ≡ some_condition_uses l.variable l.parts
