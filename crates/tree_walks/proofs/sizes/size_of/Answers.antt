use Rattle.std.proofs.Common.{◌+◌, ◌<◌, ◌≤◌, length, slice_index_or, ◌∙◌, ap, arith, rules}
use Rattle.tree_visits.specs.Forests.{forest_of, trees_after}
use Rattle.tree_walks.proofs.sizes.size_of.Goals as goal
use Rattle.tree_walks.proofs.Visits.{branch_is_there, sizes-length, tree_ends, trees_after-next}

pub bounds-sizes-behind : goal.bounds-sizes-behind
bounds-sizes-behind g c =
    let there : c.loop-branch.behind < length c.args.nodes.now = branch_is_there g.P.Path.count c.args.nodes.now c.loop-branch.behind c.loop-branch._branch (g.P.Path.count c.args.node.now) c.requires.enough c.loop-branch.invariant.here (omega (arith, c.loop-branch.invariant.count)) in
    rw (sizes-length g.P.Path.count c.args.nodes.now c.args.sizes.now c.requires.sizes) there

pub offset_bounds-sizes-behind : goal.offset_bounds-sizes-behind
offset_bounds-sizes-behind g c =
    let there : c.loop-branch.behind < length c.args.nodes.now = branch_is_there g.P.Path.count c.args.nodes.now c.loop-branch.behind c.loop-branch._branch (g.P.Path.count c.args.node.now) c.requires.enough c.loop-branch.invariant.here (omega (arith, c.loop-branch.invariant.count)) in
    let inside : c.loop-branch.behind < length c.args.sizes.now = rw (sizes-length g.P.Path.count c.args.nodes.now c.args.sizes.now c.requires.sizes) there in
    search rules

pub overflow_add-behind : goal.overflow_add-behind
overflow_add-behind g c =
    let there : c.loop-branch.behind < length c.args.nodes.now = branch_is_there g.P.Path.count c.args.nodes.now c.loop-branch.behind c.loop-branch._branch (g.P.Path.count c.args.node.now) c.requires.enough c.loop-branch.invariant.here (omega (arith, c.loop-branch.invariant.count)) in
    let ended : c.loop-branch.behind + slice_index_or c.args.sizes.now c.loop-branch.behind 0 ≤ length c.args.nodes.now = (tree_ends g.P.Path.count c.args.nodes.now c.args.sizes.now c.loop-branch.behind 0 c.requires.sizes there).within in
    let long = sizes-length g.P.Path.count c.args.nodes.now c.args.sizes.now c.requires.sizes in
    search rules

pub loop-branch-preserved : goal.loop-branch-preserved
loop-branch-preserved g c =
    let there : c.loop-branch.behind < length c.args.nodes.now = branch_is_there g.P.Path.count c.args.nodes.now c.loop-branch.behind c.loop-branch._branch (g.P.Path.count c.args.node.now) c.requires.enough c.loop-branch.invariant.here (omega (arith, c.loop-branch.invariant.count)) in
    let ended = tree_ends g.P.Path.count c.args.nodes.now c.args.sizes.now c.loop-branch.behind 0 c.requires.sizes there in
    record {
      count = c.loop-branch.invariant.count;
      within = ended.within;
      here = ended.rest ∙ ap (trees_after 1) c.loop-branch.invariant.here ∙ trees_after-next c.loop-branch._branch (forest_of g.P.Path.count c.args.nodes.now);
    }

pub overflow_add-result : goal.overflow_add-result
overflow_add-result g c =
    let long = sizes-length g.P.Path.count c.args.nodes.now c.args.sizes.now c.requires.sizes in
    search rules
