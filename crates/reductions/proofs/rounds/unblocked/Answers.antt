use Rattle.std.proofs.Common.{◌≤◌, ◌<◌, ◌&&◌, ◌||◌, not, nat_le, true, arith}
use Rattle.std.specs.Prelude.{slice_index}
use Rattle.trap_siphon.specs.Sets.{has, each_below}
use Rattle.pt_net.specs.Systems.{size, places, pre}
use Rattle.reductions.specs.Rounds.{unblocked}
use Rattle.reductions.proofs.Filling.{filled_first, filled_more, filled_all, live_from}
use Rattle.reductions.proofs.rounds.unblocked.Goals as goal

pub loop-instance-init : goal.loop-instance-init
loop-instance-init c = filled_first (size c.args.net.now) (λ i. has c.args.undead.now i && each_below (places c.args.net.now) (λ p. not (has c.args.constant.now p) || nat_le (pre c.args.net.now i p) (slice_index c.args.net.now.initial p))) true c.in_ok-found.found c.in_ok-found.ensures

pub loop-instance-preserved : goal.loop-instance-preserved
loop-instance-preserved c =
    let low : c.loop-instance.instance < size c.args.net.now = (let all = c.instances-instance-end.ensures in let test = c.loop-instance-test.true in omega arith) in
    rw c.choose.ensures (filled_more (size c.args.net.now) (λ i. has c.args.undead.now i && each_below (places c.args.net.now) (λ p. not (has c.args.constant.now p) || nat_le (pre c.args.net.now i p) (slice_index c.args.net.now.initial p))) true c.loop-instance.instance c.loop-instance.found c.is_live-chosen.result low
    (live_from c.args.net.now c.args.constant.now c.loop-instance.instance c.is_live-chosen.result (has c.args.undead.now c.loop-instance.instance) c.is_live-chosen.ensures) c.loop-instance.invariant)

pub returns-clause-set : goal.returns-clause-set
unfolding unblocked
returns-clause-set c =
    let past : size c.args.net.now ≤ c.loop-instance.instance = (let all = c.instances-instance-end.ensures in let test = c.loop-instance-test.false in omega arith) in
    filled_all (size c.args.net.now) (λ i. has c.args.undead.now i && each_below (places c.args.net.now) (λ p. not (has c.args.constant.now p) || nat_le (pre c.args.net.now i p) (slice_index c.args.net.now.initial p))) true c.loop-instance.instance c.loop-instance.found past c.loop-instance.invariant
