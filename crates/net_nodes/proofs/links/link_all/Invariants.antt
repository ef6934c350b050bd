use Rattle.std.proofs.Common.{◌≡◌, take}
use Rattle.net_nodes.specs.Links.{links_of}
use Rattle.net_nodes.proofs.links.link_all.Given as goal

abbrev pub invariant-loop-reference : goal.invariant-loop-reference
invariant-loop-reference l = l.links.items ≡ links_of l.names (take l.reference-index l.references)
