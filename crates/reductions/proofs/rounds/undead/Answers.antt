use Rattle.std.proofs.Common.{◌≤◌, ◌<◌, ◌&&◌, true, arith}
use Rattle.trap_siphon.specs.Sets.{has}
use Rattle.pt_net.specs.Systems.{size}
use Rattle.trap_siphon.specs.Stages.{has_inputs}
use Rattle.reductions.specs.Rounds.{undead_over}
use Rattle.reductions.proofs.Filling.{filled_first, filled_more, filled_all, both_from}
use Rattle.reductions.proofs.rounds.undead.Goals as goal

pub loop-instance-init : goal.loop-instance-init
loop-instance-init c = filled_first (size c.args.net.now) (λ i. has c.args.active.now i && has_inputs c.args.net.now c.args.marked.now i) true c.in_ok-found.found c.in_ok-found.ensures

pub loop-instance-preserved : goal.loop-instance-preserved
loop-instance-preserved c =
    let low : c.loop-instance.instance < size c.args.net.now = (let all = c.instances-instance-end.ensures in let test = c.loop-instance-test.true in omega arith) in
    rw c.choose.ensures (filled_more (size c.args.net.now) (λ i. has c.args.active.now i && has_inputs c.args.net.now c.args.marked.now i) true c.loop-instance.instance c.loop-instance.found c.is_undead-chosen.result low
    (both_from c.is_undead-chosen.result (has c.args.active.now c.loop-instance.instance) (has_inputs c.args.net.now c.args.marked.now c.loop-instance.instance) c.is_undead-chosen.ensures) c.loop-instance.invariant)

pub returns-clause-set : goal.returns-clause-set
unfolding undead_over
returns-clause-set c =
    let past : size c.args.net.now ≤ c.loop-instance.instance = (let all = c.instances-instance-end.ensures in let test = c.loop-instance-test.false in omega arith) in
    filled_all (size c.args.net.now) (λ i. has c.args.active.now i && has_inputs c.args.net.now c.args.marked.now i) true c.loop-instance.instance c.loop-instance.found past c.loop-instance.invariant
