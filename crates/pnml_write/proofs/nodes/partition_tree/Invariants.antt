use Rattle.std.proofs.Common.{◌≡◌, ◌∷◌, map, take}
use Rattle.pnml_write.specs.Canon.{block_tree, sort_tree}
use Rattle.pnml_write.proofs.nodes.partition_tree.Given as goal

abbrev pub invariant-loop-block : goal.invariant-loop-block
invariant-loop-block l = l.children ≡ sort_tree l.partition.sort ∷ map block_tree (take l.block-index l.partition.elements)
