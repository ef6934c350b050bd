use Rattle.std.proofs.Common.{List, [], take}
use Rattle.net_model.specs.declared.sorts.NamedSort.{NamedSort}
use Rattle.colour_sorts.specs.Calls.{AreDivided}
use Rattle.colour_sorts.specs.Domain.{StandsFor}
use Rattle.colour_sorts.proofs.domains.Domains.divide_all.Given as goal

abbrev pub invariant-loop-partition : goal.invariant-loop-partition
invariant-loop-partition l = (sorts : List NamedSort) → StandsFor l.self sorts [] → AreDivided sorts (take l.partition-index l.partitions) l.divisions.items
