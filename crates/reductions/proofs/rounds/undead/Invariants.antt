use Rattle.std.proofs.Common.{◌&&◌, true}
use Rattle.trap_siphon.specs.Sets.{has}
use Rattle.pt_net.specs.Systems.{size}
use Rattle.trap_siphon.specs.Stages.{has_inputs}
use Rattle.reductions.proofs.Filling.{IsFilled}
use Rattle.reductions.proofs.rounds.undead.Given as goal

abbrev pub invariant-loop-instance : goal.invariant-loop-instance
invariant-loop-instance l = IsFilled (size l.net) (λ i. has l.active i && has_inputs l.net l.marked i) true l.instance l.found
