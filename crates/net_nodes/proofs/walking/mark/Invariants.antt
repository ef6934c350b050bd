use Rattle.std.proofs.Common.{◌≡◌, ◌<◌, length, Ok}
use Rattle.net_nodes.specs.Links.{AreKnown, link_end}
use Rattle.net_nodes.proofs.walking.mark.Given as goal

abbrev pub invariant-loop-passed : goal.invariant-loop-passed
invariant-loop-passed l = (l.at < length l.links) × AreKnown l.links l.known × (link_end l.links l.at ≡ Ok l.end)
