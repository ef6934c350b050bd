use Rattle.std.proofs.Common.{Bool, List, drop}
use Rattle.multiset_terms.specs.Marked.{AreMarked}
use Rattle.multiset_terms.specs.Trees.{some_use}
use Rattle.multiset_terms.proofs.marks.+marking.Given as goal

-- what the rest marks, the whole marks
abbrev pub invariant-mark_trees-loop-tree : goal.invariant-mark_trees-loop-tree
invariant-mark_trees-loop-tree l = (new : List Bool) → AreMarked (λ v. some_use v (drop l.tree-index l.trees)) l.marks new → AreMarked (λ v. some_use v l.trees) l.fn.marks new
