use Rattle.std.proofs.Common.{◌≡◌, ◌≢◌, ◌<◌, ℕ, true, false, replicate}
use Rattle.trap_siphon.specs.Sets.{has}
use Rattle.pt_net.specs.Systems.{places, pre, post}
use Rattle.reductions.specs.Marking.{Marks}
use Rattle.reductions.proofs.rounds.changed.Given as goal

abbrev pub invariant-loop-instance : goal.invariant-loop-instance
invariant-loop-instance l = Marks (λ p. (i : ℕ) × (i < l.instance) × (has l.undead i ≡ true) × (pre l.net i p ≢ post l.net i p)) (replicate (places l.net) false) l.found
