use Rattle.std.proofs.Common.{◌≡◌, ◌++◌, drop, map}
use Rattle.std.specs.List.{filter}
use Rattle.net_elements.specs.declared.roles.Role.TheVariants as role
use Rattle.pnml_read.specs.Nets.{given, is_block, kept}
use Rattle.pnml_read.proofs.labels.blocks_in.Given as goal

abbrev pub invariant-loop-child : goal.invariant-loop-child
invariant-loop-child l =
    l.blocks ++ map (λ c. c.block) (filter is_block (kept role.Partition (map given (drop l.child-index l.children))))
    ≡ map (λ c. c.block) (filter is_block (kept role.Partition (map given l.children)))
