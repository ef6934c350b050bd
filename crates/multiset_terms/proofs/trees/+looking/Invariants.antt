use Rattle.std.proofs.Common.{◌≡◌, drop}
use Rattle.multiset_terms.specs.Trees.{some_use}
use Rattle.multiset_terms.proofs.trees.+looking.Given as goal

abbrev pub invariant-any_uses-loop-part : goal.invariant-any_uses-loop-part
invariant-any_uses-loop-part l = some_use l.variable (drop l.part-index l.parts) ≡ some_use l.variable l.parts
