use Rattle.std.proofs.Common.{◌≡◌, ◌++◌, drop, map}
use Rattle.pnml_write.specs.Canon.{named_sort_tree}
use Rattle.pnml_write.proofs.writing.add_sorts.Given as goal

abbrev pub invariant-loop-sort : goal.invariant-loop-sort
invariant-loop-sort l = l.trees ++ map named_sort_tree (drop l.sort-index l.sorts) ≡ l.fn.trees ++ map named_sort_tree l.sorts
