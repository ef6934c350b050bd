use Rattle.std.proofs.Common.{◌≡◌, ◌++◌, map, take, All}
use Rattle.plain_rows.specs.Nodes.{IsFreshArc, AreNumbered}
use Rattle.plain_rows.proofs.nodes.add_arcs.Given as goal

abbrev pub invariant-loop-arc : goal.invariant-loop-arc
invariant-loop-arc l =
    (l.ids ≡ l.fn.ids ++ map (λ arc. arc.id) (take l.arc-index l.arcs))
    × AreNumbered l.ids
    × All IsFreshArc (take l.arc-index l.arcs)
