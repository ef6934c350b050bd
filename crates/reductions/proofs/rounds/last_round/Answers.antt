use Rattle.std.proofs.Common.{◌≡◌, ◌≢◌, ◌+◌, sym, length, arith, one-mul}
use Rattle.std.proofs.lemmas.Bool.{MatchBool-at_true, MatchBool-at_false}
use Rattle.reductions.proofs.Filling.{rounds_stop, rounds_on, rounds_first, ticks_more}
use Rattle.reductions.proofs.Going.{next_round, stop_round}
use Rattle.reductions.proofs.rounds.last_round.Goals as goal

pub loop-before-init : goal.loop-before-init
loop-before-init g c = record {
  lengths = c.in_ok-round.ensures.lengths;
  on = c.in_ok-round.ensures.found;
  left = rounds_first c.args.task.now.net.now;
  ticks = (let one = one-mul (length c.args.task.now.packed.now) in let step = c.in_ok-round.ensures.steps in omega arith);
}

pub returns-then-are_same-clause-found : goal.returns-then-are_same-clause-found
returns-then-are_same-clause-found g c =
    let same : c.loop-before.round.live ≡ c.loop-before.round.active = MatchBool-at_true _ _ c.if-are_same.true c.are_same.ensures in
    let on = c.loop-before.invariant.on in
    stop_round c.args.task.now.net.now c.loop-before.before c.loop-before.round.active c.loop-before.round.constant c.loop-before.round.live c.loop-before.round.alive on
    (rounds_stop c.args.task.now.net.now c.loop-before.before c.loop-before.round.active c.loop-before.round.live c.loop-before-test.true on.is_active on.is_live same c.loop-before.invariant.left)

pub returns-then-are_same-clause-rounds : goal.returns-then-are_same-clause-rounds
returns-then-are_same-clause-rounds g c =
    let same : c.loop-before.round.live ≡ c.loop-before.round.active = MatchBool-at_true _ _ c.if-are_same.true c.are_same.ensures in
    let on = c.loop-before.invariant.on in
    sym (rounds_stop c.args.task.now.net.now c.loop-before.before c.loop-before.round.active c.loop-before.round.live c.loop-before-test.true on.is_active on.is_live same c.loop-before.invariant.left)

pub loop-before-preserved : goal.loop-before-preserved
loop-before-preserved g c =
    let apart : c.loop-before.round.live ≢ c.loop-before.round.active = MatchBool-at_false _ _ c.if-are_same.false c.are_same.ensures in
    let on = c.loop-before.invariant.on in
    record {
      lengths = c.in_ok-round-2.ensures.lengths;
      on = next_round c.args.task.now.net.now c.loop-before.before c.loop-before.round.active c.loop-before.round.constant c.loop-before.round.live c.loop-before.round.alive
          c.in_ok-round-2.round.active c.in_ok-round-2.round.constant c.in_ok-round-2.round.live c.in_ok-round-2.round.alive on c.in_ok-round-2.ensures.found;
      left = rounds_on c.args.task.now.net.now c.loop-before.before c.loop-before.round.active c.loop-before.round.live c.loop-before-test.true on.is_active on.is_live apart c.loop-before.invariant.left;
      ticks = ticks_more c.args.steps.now c.loop-before.steps c.next.new.steps (c.loop-before.before + 1) (length c.args.task.now.packed.now) c.loop-before.invariant.ticks c.next.ensures.steps;
    }
