use Rattle.std.proofs.Common.{◌≡◌, ◌++◌, drop, map}
use Rattle.pnml_write.specs.Canon.{partition_tree}
use Rattle.pnml_write.proofs.writing.add_partitions.Given as goal

abbrev pub invariant-loop-partition : goal.invariant-loop-partition
invariant-loop-partition l = l.trees ++ map partition_tree (drop l.partition-index l.partitions) ≡ l.fn.trees ++ map partition_tree l.partitions
