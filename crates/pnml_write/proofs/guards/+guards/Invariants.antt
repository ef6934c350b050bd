use Rattle.std.proofs.Common.{◌≡◌, map, take}
use Rattle.pnml_write.specs.Canon.{guard_part_tree, guard_tree}
use Rattle.pnml_write.proofs.guards.+guards.Given as goal

abbrev pub invariant-around_parts-loop-guard : goal.invariant-around_parts-loop-guard
invariant-around_parts-loop-guard l = l.trees ≡ map (λ g. guard_part_tree (guard_tree g)) (take l.guard-index l.guards)
