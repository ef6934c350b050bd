use Rattle.std.proofs.Common.{length, ◌+◌, ◌-◌, ◌<◌, subst, arith}
use Rattle.std.proofs.lemmas.List.{take_rest}
use Rattle.tree_walks.specs.Walks.{AreBranched}
use Rattle.tree_walks.proofs.sizes.sizes_of.Goals as goal
use Rattle.tree_walks.proofs.Visits.{item_at, branched-drop}

pub size_of-size-requires-clause-enough : goal.size_of-size-requires-clause-enough
size_of-size-requires-clause-enough g c =
    let inside : c.loop-at.at - 1 < length c.args.nodes.now = omega (arith, c.loop-at.invariant.within, c.loop-at-test.true) in
    let is = item_at c.args.nodes.now (c.loop-at.at - 1) c.index-nodes-at.result inside c.index-nodes-at.is in
    rw (take_rest c.args.nodes.now (c.loop-at.at - 1 + 1)) (subst (AreBranched g.P.Path.count) is (branched-drop g.P.Path.count (c.loop-at.at - 1) c.args.nodes.now c.requires)).0

pub size_of-size-requires-clause-branched : goal.size_of-size-requires-clause-branched
size_of-size-requires-clause-branched g c = rw (take_rest c.args.nodes.now (c.loop-at.at - 1 + 1)) (branched-drop g.P.Path.count (c.loop-at.at - 1 + 1) c.args.nodes.now c.requires)
