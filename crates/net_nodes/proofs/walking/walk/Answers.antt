use Rattle.std.proofs.Common.{arith}
use Rattle.net_nodes.specs.Links.{link_kind}
use Rattle.net_nodes.proofs.Walks.{comes-round, ends, goes-on, next-within}
use Rattle.net_nodes.proofs.walking.walk.Goals as goal

pub returns-in-Ended : goal.returns-in-Ended
returns-in-Ended c =
    let links = c.args.links.now in
    ends links c.args.from (link_kind links c.args.from) c.loop-passed._passed c.loop-passed.at c.in-Ended.answer c.loop-passed.invariant c.in-Ended.ensures

pub loop-passed-preserved : goal.loop-passed-preserved
loop-passed-preserved c =
    let links = c.args.links.now in
    let at = c.loop-passed.at in
    let next = c.in-Onward.next in
    goes-on links c.args.from (link_kind links c.args.from) c.loop-passed._passed at next c.loop-passed.invariant c.in-Onward.ensures.0 c.in-Onward.ensures.1
    (next-within links at next c.requires.inside c.loop-passed.invariant.within c.in-Onward.ensures.0)

pub returns : goal.returns
returns c =
    comes-round c.args.links.now c.args.from (link_kind c.args.links.now c.args.from) c.loop-passed._passed c.loop-passed.at (omega (arith, c.loop-passed-test.false)) c.loop-passed.invariant
