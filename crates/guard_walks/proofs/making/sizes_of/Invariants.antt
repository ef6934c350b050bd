use Rattle.std.proofs.Common.{◌≡◌, take}
use Rattle.guard_walks.specs.Walks.{all_sizes, values_at}
use Rattle.guard_walks.proofs.making.sizes_of.Given as goal

abbrev pub invariant-loop-variable : goal.invariant-loop-variable
invariant-loop-variable l = record {
  sorts : l.sorts ≡ l.signature.variables.sorts;
  sizes : l.sizes ≡ values_at (all_sizes l.signature) (take l.variable-index l.variables);
}
