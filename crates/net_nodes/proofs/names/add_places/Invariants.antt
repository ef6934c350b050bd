use Rattle.std.proofs.Common.{◌≡◌, ◌++◌, map, take}
use Rattle.net_nodes.proofs.names.add_places.Given as goal

abbrev pub invariant-loop-place : goal.invariant-loop-place
invariant-loop-place l = l.ids ≡ l.fn.ids ++ map (λ x. x.id) (take l.place-index l.places)
