use Rattle.std.proofs.Common.{◌≡◌, map, take}
use Rattle.net_model.specs.Ids.{element_ids}
use Rattle.colour_sorts.proofs.partitions.elements_of_partitions.Given as goal

abbrev pub invariant-loop-partition : goal.invariant-loop-partition
invariant-loop-partition l = l.groups ≡ take l.partition-index (map element_ids l.partitions)
