use Rattle.std.proofs.Common.{◌≡◌, map, take}
use Rattle.pnml_write.specs.Canon.{sort_tree}
use Rattle.pnml_write.proofs.sorts.+sorts.Given as goal

abbrev pub invariant-sort_trees-loop-sort : goal.invariant-sort_trees-loop-sort
invariant-sort_trees-loop-sort l = l.trees ≡ map sort_tree (take l.sort-index l.sorts)
