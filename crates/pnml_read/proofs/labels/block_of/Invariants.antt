use Rattle.std.proofs.Common.{◌≡◌, ◌++◌, drop, map}
use Rattle.net_elements.specs.declared.roles.Role.TheVariants as role
use Rattle.pnml_read.specs.Nets.{given, kept}
use Rattle.pnml_read.proofs.labels.block_of.Given as goal

abbrev pub invariant-loop-child : goal.invariant-loop-child
invariant-loop-child l =
    l.members ++ map (λ c. c.member) (kept role.PartitionElement (map given (drop l.child-index l.children))) ≡ map (λ c. c.member) (kept role.PartitionElement (map given l.children))
