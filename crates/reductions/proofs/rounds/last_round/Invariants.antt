use Rattle.std.proofs.Common.{◌≡◌, ◌+◌, ◌-◌, ◌*◌, ◌≤◌, length}
use Rattle.reductions.specs.Numbers.{least, is_same}
use Rattle.reductions.specs.Rounds.{active, rounds}
use Rattle.reductions.specs.Searching.{AreAsLong, IsRound}
use Rattle.reductions.proofs.rounds.last_round.Given as goal

abbrev pub invariant-loop-before : goal.invariant-loop-before
invariant-loop-before g l = record {
  lengths : AreAsLong l.task.net.now l.round.active l.round.constant l.round.live l.round.alive;
  on : IsRound l.task.net.now l.before l.round.active l.round.constant l.round.live l.round.alive;
  left : rounds l.task.net.now ≡ least (63 - l.before) (λ k. is_same (active l.task.net.now k) (active l.task.net.now (k - 1))) (l.before + 1);
  ticks : l.steps ≤ l.fn.steps + (l.before + 1) * length l.task.packed.now;
}
