use Rattle.std.proofs.Common.{◌&&◌, not, true}
use Rattle.trap_siphon.specs.Sets.{has}
use Rattle.pt_net.specs.Systems.{size}
use Rattle.reductions.proofs.Filling.{IsFilled}
use Rattle.reductions.proofs.rounds.alive_after.Given as goal

abbrev pub invariant-loop-instance : goal.invariant-loop-instance
invariant-loop-instance l = IsFilled (size l.net) (λ i. has l.before i && not (has l.active i && not (has l.undead i))) true l.instance l.found
