use Rattle.std.proofs.Common.{◌≡◌, map, take}
use Rattle.colour_tables.proofs.apart.ids_of_partitions.Given as goal

abbrev pub invariant-loop-partition : goal.invariant-loop-partition
invariant-loop-partition l = l.ids.items ≡ map (λ p. p.id) (take l.partition-index l.partitions)
