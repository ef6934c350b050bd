use Rattle.std.proofs.Common.{◌≡◌, ◌++◌, map, take}
use Rattle.net_nodes.proofs.names.add_references.Given as goal

abbrev pub invariant-loop-reference : goal.invariant-loop-reference
invariant-loop-reference l = l.ids ≡ l.fn.ids ++ map (λ x. x.id) (take l.reference-index l.references)
