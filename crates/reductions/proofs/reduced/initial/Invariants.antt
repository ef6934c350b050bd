use Rattle.std.proofs.Common.{◌≡◌, map}
use Rattle.std.specs.Prelude.{slice_index}
use Rattle.reductions.specs.Numbers.{numbers}
use Rattle.reductions.specs.Merging.{stays}
use Rattle.reductions.proofs.reduced.initial.Given as goal

abbrev pub invariant-loop-place : goal.invariant-loop-place
invariant-loop-place l = l.found.items ≡ map (slice_index l.net.initial) (numbers l.place (stays l.constant))
