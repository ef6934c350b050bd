use Rattle.std.proofs.Common.{◌≡◌, take}
use Rattle.std.specs.List.{count_by}
use Rattle.net_elements.specs.Rows.{slot_view}
use Rattle.net_elements.specs.Rules.{is_in}
use Rattle.net_elements.specs.Walking.{name_of}
use Rattle.net_elements.proofs.seats.count_in.Given as goal

abbrev pub invariant-loop-sibling : goal.invariant-loop-sibling
invariant-loop-sibling l = l.count ≡ count_by (λ e. is_in (slot_view l.slot) (name_of e)) (take l.sibling-index l.siblings)
