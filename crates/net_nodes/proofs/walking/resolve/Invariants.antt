use Rattle.net_nodes.specs.Links.{AreEnds, AreKnown}
use Rattle.net_nodes.proofs.walking.resolve.Given as goal

abbrev pub invariant-loop-at : goal.invariant-loop-at
invariant-loop-at l = AreKnown l.links l.known.items × AreEnds l.links l.at l.ends.items
