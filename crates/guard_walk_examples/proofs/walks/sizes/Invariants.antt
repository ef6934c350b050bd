use Rattle.std.proofs.Common.{◌≡◌, map, take}
use Rattle.colour_sorts.specs.Colours.{size}
use Rattle.guard_walk_examples.proofs.walks.sizes.Given as goal

abbrev pub invariant-loop-sort : goal.invariant-loop-sort
invariant-loop-sort l = record {
  sorts : l.sorts ≡ l.signature.variables.sorts;
  sizes : l.sizes.items ≡ map (size l.signature.domains.constants) (take l.sort-index l.signature.variables.sorts);
}
