use Rattle.std.proofs.Common.{◌≡◌, drop, map}
use Rattle.net_elements.specs.Rows.{slot_view}
use Rattle.net_elements.specs.Rules.{is_missing}
use Rattle.net_elements.specs.Walking.{name_of}
use Rattle.net_elements.proofs.seats.is_missing.Given as goal

abbrev pub invariant-loop-slot : goal.invariant-loop-slot
invariant-loop-slot l =
    is_missing (map slot_view (drop l.slot-index l.slots)) (map name_of l.children) ≡ is_missing (map slot_view l.slots) (map name_of l.children)
