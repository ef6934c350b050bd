use Rattle.std.proofs.Common.{◌≡◌, ℕ, ◌<◌, length}
use Rattle.std.specs.Prelude.{slice_index}
use Rattle.reductions.specs.Numbers.{rank}
use Rattle.reductions.specs.Merging.{stays}
use Rattle.reductions.proofs.merging.numbered.Given as goal

abbrev pub invariant-loop-place : goal.invariant-loop-place
invariant-loop-place l = record {
  as_long : length l.ranks.items ≡ l.place;
  each : (p : ℕ) → p < l.place → slice_index l.ranks.items p ≡ rank (stays l.constant) p;
  kept : l.kept ≡ rank (stays l.constant) l.place;
}
