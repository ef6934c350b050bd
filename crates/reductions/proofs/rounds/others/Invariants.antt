use Rattle.std.proofs.Common.{not, false}
use Rattle.trap_siphon.specs.Sets.{has}
use Rattle.pt_net.specs.Systems.{places}
use Rattle.reductions.proofs.Filling.{IsFilled}
use Rattle.reductions.proofs.rounds.others.Given as goal

abbrev pub invariant-loop-place : goal.invariant-loop-place
invariant-loop-place l = IsFilled (places l.net) (λ p. not (has l.set p)) false l.place l.found
