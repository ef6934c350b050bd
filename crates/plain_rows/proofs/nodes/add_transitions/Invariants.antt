use Rattle.std.proofs.Common.{◌≡◌, ◌++◌, take, All}
use Rattle.plain_model.specs.Plain.{IsId}
use Rattle.plain_rows.specs.Nodes.{AreNumbered}
use Rattle.plain_rows.proofs.nodes.add_transitions.Given as goal

abbrev pub invariant-loop-transition : goal.invariant-loop-transition
invariant-loop-transition l =
    (l.ids ≡ l.fn.ids ++ take l.transition-index l.transitions)
    × AreNumbered l.ids
    × All IsId (take l.transition-index l.transitions)
