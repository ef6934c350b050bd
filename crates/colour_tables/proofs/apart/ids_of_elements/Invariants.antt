use Rattle.std.proofs.Common.{◌≡◌, map, take}
use Rattle.net_model.specs.Ids.{element_ids, names_in}
use Rattle.colour_tables.proofs.apart.ids_of_elements.Given as goal

abbrev pub invariant-loop-partition : goal.invariant-loop-partition
invariant-loop-partition l = l.names.items ≡ names_in (map element_ids (take l.partition-index l.partitions))
