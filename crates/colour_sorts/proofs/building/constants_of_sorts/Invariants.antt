use Rattle.std.proofs.Common.{◌≡◌, take}
use Rattle.net_model.specs.Ids.{constants_of}
use Rattle.colour_sorts.proofs.building.constants_of_sorts.Given as goal

abbrev pub invariant-loop-sort : goal.invariant-loop-sort
invariant-loop-sort l = l.groups ≡ take l.sort-index (constants_of l.sorts)
