use Rattle.std.proofs.Common.{◌≡◌, ◌≤◌, length, drop}
use Rattle.tree_walks.specs.Walks.{AreSizes}
use Rattle.tree_walks.proofs.sizes.sizes_of.Given as goal

abbrev pub invariant-loop-at : goal.invariant-loop-at
invariant-loop-at g l = record {
  as_long : length l.sizes.items ≡ length l.nodes;
  within : l.at ≤ length l.nodes;
  sizes : AreSizes g.P.Path.count (drop l.at l.nodes) (drop l.at l.sizes.items);
}

abbrev pub decreases-loop-at : goal.decreases-loop-at
decreases-loop-at g l = l.at
