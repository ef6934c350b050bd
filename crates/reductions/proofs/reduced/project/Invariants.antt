use Rattle.std.proofs.Common.{◌≡◌, ◌<◌, ◌^◌, map, All}
use Rattle.std.specs.Prelude.{slice_index}
use Rattle.reductions.specs.Numbers.{numbers}
use Rattle.reductions.specs.Slots.{is_kept, slot_at}
use Rattle.reductions.proofs.reduced.project.Given as goal

abbrev pub invariant-loop-place : goal.invariant-loop-place
invariant-loop-place l = record {
  so_far : l.found.items ≡ map (slice_index l.counts) (numbers l.place (λ p. is_kept (slot_at l.slots p)));
  low : All (λ k. k < 2 ^ 63) l.found.items;
}
