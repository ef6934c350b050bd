use Rattle.std.proofs.Common.{◌≡◌, map, take}
use Rattle.pnml_write.specs.Canon.{constant_tree}
use Rattle.pnml_write.proofs.sorts.constant_trees.Given as goal

abbrev pub invariant-loop-id : goal.invariant-loop-id
invariant-loop-id l = l.trees ≡ map constant_tree (take l.id-index l.ids)
