use Rattle.std.proofs.Common.{◌≡◌, ◌++◌, map, take, All}
use Rattle.plain_rows.specs.Nodes.{IsFreshPlace, AreNumbered}
use Rattle.plain_rows.proofs.nodes.add_places.Given as goal

abbrev pub invariant-loop-place : goal.invariant-loop-place
invariant-loop-place l =
    (l.ids ≡ l.fn.ids ++ map (λ place. place.id) (take l.place-index l.places))
    × AreNumbered l.ids
    × All IsFreshPlace (take l.place-index l.places)
