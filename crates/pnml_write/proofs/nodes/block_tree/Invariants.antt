use Rattle.std.proofs.Common.{◌≡◌, map, take}
use Rattle.pnml_write.specs.Canon.{member_tree}
use Rattle.pnml_write.proofs.nodes.block_tree.Given as goal

abbrev pub invariant-loop-member : goal.invariant-loop-member
invariant-loop-member l = l.members ≡ map member_tree (take l.member-index l.block.members)
