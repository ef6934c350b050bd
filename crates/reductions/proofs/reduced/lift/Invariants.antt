use Rattle.std.proofs.Common.{◌≡◌, ◌<◌, ◌^◌, map, take, All}
use Rattle.reductions.specs.Slots.{slot_count}
use Rattle.reductions.proofs.reduced.lift.Given as goal

abbrev pub invariant-loop-slot : goal.invariant-loop-slot
invariant-loop-slot l = record {
  so_far : l.found.items ≡ map (slot_count l.counts) (take l.slot-index l.slots);
  low : All (λ k. k < 2 ^ 63) l.found.items;
}
