use Rattle.std.proofs.Common.{◌≡◌, ℕ, ◌+◌, ◌*◌, ◌≤◌, [], length, drop, slice_index_or, flat_map}
use Rattle.std.specs.Prelude.{All}
use Rattle.tree_visits.specs.Forests.{forest_of, visits, first_trees, trees_after}
use Rattle.tree_walks.specs.Walks.{ran, AllFit}
use Rattle.tree_walks.proofs.walks.+walk.Given as goal

abbrev pub decreases-walk_branches : goal.decreases-walk_branches
decreases-walk_branches g l = 3 * length l.nodes.now + 1

abbrev pub decreases-walk_rounds : goal.decreases-walk_rounds
decreases-walk_rounds g l = 3 * length l.nodes.now + 2

abbrev pub decreases-walk_tree : goal.decreases-walk_tree
decreases-walk_tree g l = 3 * length l.nodes.now

-- the branches that are still to come make up what all of them do
abbrev pub invariant-walk_branches-loop-branch : goal.invariant-walk_branches-loop-branch
invariant-walk_branches-loop-branch g l = record {
  count : l.branch-end ≡ g.P.Path.count l.node;
  top : g.P.Path.top l.path ≡ g.P.Path.top l.fn.path;
  below : g.P.Path.below l.path ≡ g.P.Path.below l.fn.path;
  room : g.P.Path.room l.fn.path ≤ g.P.Path.room l.path;
  within : l.at ≤ length l.nodes;
  here : forest_of g.P.Path.count (drop l.at l.nodes) ≡ trees_after l.branch (forest_of g.P.Path.count l.nodes);
  fits : AllFit g.P.Path.size (g.P.Path.room l.fn.path) (visits g.P.Path.rounds (forest_of g.P.Path.count l.nodes) (slice_index_or (g.P.Path.rounds (g.P.Path.top l.fn.path) l.node) l.round []))
      → AllFit g.P.Path.size (g.P.Path.room l.fn.path) (visits g.P.Path.rounds (forest_of g.P.Path.count (drop l.at l.nodes)) (drop l.branch (slice_index_or (g.P.Path.rounds (g.P.Path.top l.fn.path) l.node) l.round [])));
  has_room : (more : ℕ) → g.P.Path.room l.path ≤ more
      → AllFit g.P.Path.size more (visits g.P.Path.rounds (forest_of g.P.Path.count (drop l.at l.nodes)) (drop l.branch (slice_index_or (g.P.Path.rounds (g.P.Path.top l.fn.path) l.node) l.round [])))
      → AllFit g.P.Path.size more (visits g.P.Path.rounds (forest_of g.P.Path.count l.nodes) (slice_index_or (g.P.Path.rounds (g.P.Path.top l.fn.path) l.node) l.round []));
  rest : ran g.P.Path.stop g.P.Path.next (g.P.Path.spent l.fn.path) (visits g.P.Path.rounds (forest_of g.P.Path.count l.nodes) (slice_index_or (g.P.Path.rounds (g.P.Path.top l.fn.path) l.node) l.round []))
      ≡ ran g.P.Path.stop g.P.Path.next (g.P.Path.spent l.path) (visits g.P.Path.rounds (forest_of g.P.Path.count (drop l.at l.nodes)) (drop l.branch (slice_index_or (g.P.Path.rounds (g.P.Path.top l.fn.path) l.node) l.round [])));
}

-- the rounds that are still to come make up what all of them do
abbrev pub invariant-walk_rounds-loop-round : goal.invariant-walk_rounds-loop-round
invariant-walk_rounds-loop-round g l = record {
  count : l.round-end ≡ length (g.P.Path.rounds (g.P.Path.top l.fn.path) l.node);
  sized : All (λ states. length states ≡ g.P.Path.count l.node) (g.P.Path.rounds (g.P.Path.top l.fn.path) l.node);
  top : g.P.Path.top l.path ≡ g.P.Path.top l.fn.path;
  below : g.P.Path.below l.path ≡ g.P.Path.below l.fn.path;
  room : g.P.Path.room l.fn.path ≤ g.P.Path.room l.path;
  fits : AllFit g.P.Path.size (g.P.Path.room l.fn.path) (flat_map (λ states. visits g.P.Path.rounds (first_trees (g.P.Path.count l.node) (forest_of g.P.Path.count l.nodes)) states) (g.P.Path.rounds (g.P.Path.top l.fn.path) l.node))
      → AllFit g.P.Path.size (g.P.Path.room l.fn.path) (flat_map (λ states. visits g.P.Path.rounds (first_trees (g.P.Path.count l.node) (forest_of g.P.Path.count l.nodes)) states) (drop l.round (g.P.Path.rounds (g.P.Path.top l.fn.path) l.node)));
  has_room : (more : ℕ) → g.P.Path.room l.path ≤ more
      → AllFit g.P.Path.size more (flat_map (λ states. visits g.P.Path.rounds (first_trees (g.P.Path.count l.node) (forest_of g.P.Path.count l.nodes)) states) (drop l.round (g.P.Path.rounds (g.P.Path.top l.fn.path) l.node)))
      → AllFit g.P.Path.size more (flat_map (λ states. visits g.P.Path.rounds (first_trees (g.P.Path.count l.node) (forest_of g.P.Path.count l.nodes)) states) (g.P.Path.rounds (g.P.Path.top l.fn.path) l.node));
  rest : ran g.P.Path.stop g.P.Path.next (g.P.Path.spent l.fn.path) (flat_map (λ states. visits g.P.Path.rounds (first_trees (g.P.Path.count l.node) (forest_of g.P.Path.count l.nodes)) states) (g.P.Path.rounds (g.P.Path.top l.fn.path) l.node))
      ≡ ran g.P.Path.stop g.P.Path.next (g.P.Path.spent l.path) (flat_map (λ states. visits g.P.Path.rounds (first_trees (g.P.Path.count l.node) (forest_of g.P.Path.count l.nodes)) states) (drop l.round (g.P.Path.rounds (g.P.Path.top l.fn.path) l.node)));
}
