use Rattle.std.proofs.Common.{◌≡◌, take}
use Rattle.net_model.specs.Ids.{constants_of, names_in}
use Rattle.colour_tables.proofs.apart.constants_of_sorts.Given as goal

abbrev pub invariant-loop-sort : goal.invariant-loop-sort
invariant-loop-sort l = l.names.items ≡ names_in (constants_of (take l.sort-index l.sorts))
