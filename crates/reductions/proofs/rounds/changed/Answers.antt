use Rattle.std.proofs.Common.{◌≤◌, false, replicate, arith}
use Rattle.pt_net.specs.Systems.{places, size}
use Rattle.reductions.proofs.Filling.{marks_test, replicate_off}
use Rattle.reductions.proofs.rounds.changed.Goals as goal

pub returns-clause-changed : goal.returns-clause-changed
returns-clause-changed c = λ p low.
    let past : size c.args.net.now ≤ c.loop-instance.instance = (let all = c.instances-instance-end.ensures in let test = c.loop-instance-test.false in omega arith) in
    let top : c.loop-instance.instance ≤ size c.args.net.now = (let all = c.instances-instance-end.ensures in let most = c.loop-instance.auto.instance-end in omega arith) in
    marks_test c.args.net.now c.args.undead.now c.loop-instance.instance (replicate (places c.args.net.now) false) c.loop-instance.found (replicate_off (places c.args.net.now)) past p c.loop-instance.invariant top
