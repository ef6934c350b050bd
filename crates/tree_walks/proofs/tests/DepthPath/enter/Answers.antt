use Rattle.std.proofs.Common.{◌+◌, ◌≤◌, ◌<◌, rules, arith}
use Rattle.tree_walks.proofs.Depths.{twice_is}
use Rattle.tree_walks.proofs.tests.DepthPath.enter.Goals as goal

pub returns-in_default-clause-fits : goal.returns-in_default-clause-fits
returns-in_default-clause-fits c small =
    let is = twice_is c.args.self.now.depth c.args._node.now c.args._round c.args._branch c.args.self.now.depth c.requires.round c.requires.branch in
    let fits : c.args.self.now.depth + 1 ≤ c.args.self.now.room = rw is at small in
    search rules
