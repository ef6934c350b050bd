use Rattle.std.proofs.Common.{◌≡◌, take}
use Rattle.net_model.specs.Ids.{ids_of}
use Rattle.colour_tables.proofs.apart.ids_of_sorts.Given as goal

abbrev pub invariant-loop-sort : goal.invariant-loop-sort
invariant-loop-sort l = l.ids.items ≡ ids_of (take l.sort-index l.sorts)
