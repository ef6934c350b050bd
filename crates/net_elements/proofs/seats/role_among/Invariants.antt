use Rattle.std.proofs.Common.{◌≡◌, drop, map}
use Rattle.net_elements.specs.Rows.{slot_view}
use Rattle.net_elements.specs.Rules.{role_among}
use Rattle.net_elements.specs.Walking.{name_of}
use Rattle.net_elements.proofs.seats.role_among.Given as goal

abbrev pub invariant-loop-slot : goal.invariant-loop-slot
invariant-loop-slot l =
    role_among (map slot_view (drop l.slot-index l.slots)) (map name_of l.earlier) l.name ≡ role_among (map slot_view l.slots) (map name_of l.earlier) l.name
