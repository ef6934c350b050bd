use Rattle.std.proofs.Common.{◌&&◌, ◌||◌, not, nat_le, true}
use Rattle.std.specs.Prelude.{slice_index}
use Rattle.trap_siphon.specs.Sets.{has, each_below}
use Rattle.pt_net.specs.Systems.{size, places, pre}
use Rattle.reductions.proofs.Filling.{IsFilled}
use Rattle.reductions.proofs.rounds.unblocked.Given as goal

abbrev pub invariant-loop-instance : goal.invariant-loop-instance
invariant-loop-instance l = IsFilled (size l.net) (λ i. has l.undead i && each_below (places l.net) (λ p. not (has l.constant p) || nat_le (pre l.net i p) (slice_index l.net.initial p))) true l.instance l.found
