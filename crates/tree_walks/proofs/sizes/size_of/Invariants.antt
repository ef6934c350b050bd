use Rattle.std.proofs.Common.{◌≡◌, ◌≤◌, length, drop}
use Rattle.tree_visits.specs.Forests.{forest_of, trees_after}
use Rattle.tree_walks.proofs.sizes.size_of.Given as goal

abbrev pub invariant-loop-branch : goal.invariant-loop-branch
invariant-loop-branch g l = record {
  count : l._branch-end ≡ g.P.Path.count l.node;
  within : l.behind ≤ length l.nodes;
  here : forest_of g.P.Path.count (drop l.behind l.nodes) ≡ trees_after l._branch (forest_of g.P.Path.count l.nodes);
}
