use Rattle.std.proofs.Common.{◌≡◌, map, take}
use Rattle.colour_sorts.proofs.partitions.ids_of_partitions.Given as goal

abbrev pub invariant-loop-partition : goal.invariant-loop-partition
invariant-loop-partition l = l.ids ≡ take l.partition-index (map (λ p. p.id) l.partitions)
