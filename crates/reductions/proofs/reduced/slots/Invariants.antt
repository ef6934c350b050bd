use Rattle.std.proofs.Common.{◌≡◌, map}
use Rattle.std.specs.List.{range_with_len}
use Rattle.reductions.specs.Slots.{slot_over}
use Rattle.reductions.proofs.reduced.slots.Given as goal

abbrev pub invariant-loop-place : goal.invariant-loop-place
invariant-loop-place l = l.found.items ≡ map (slot_over l.net l.constant) (range_with_len 0 l.place)
