use Rattle.net_nodes.proofs.Walks.{end-behind, known-more, next-within}
use Rattle.net_nodes.proofs.walking.mark.Goals as goal

pub loop-passed-preserved : goal.loop-passed-preserved
loop-passed-preserved c =
    let links = c.args.links.now in
    let at = c.loop-passed.at in
    let next = c.in-Some.next in
    let come = c.loop-passed.invariant in (
      next-within links at next c.requires.inside come.0 c.in-Some.ensures,
      known-more links c.loop-passed.known at c.args.end come.1 come.2,
      end-behind links at next c.args.end come.2 c.in-Some.ensures,
    )
