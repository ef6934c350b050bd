-- The table as the program holds it.
use Rattle.net_elements.specs.Table.{Slot}
use Rattle.net_elements.specs.declared.rows.Slot as held

abbrev pub slot_view : held.Slot → Slot
slot_view s = record { roles = s.roles.now; count = s.count }
