use Rattle.std.proofs.Common.{◌≤◌, ◌&&◌, not, true, arith}
use Rattle.trap_siphon.specs.Sets.{has}
use Rattle.pt_net.specs.Systems.{size}
use Rattle.reductions.proofs.Filling.{filled_all}
use Rattle.reductions.proofs.rounds.alive_after.Goals as goal

pub returns-clause-alive : goal.returns-clause-alive
returns-clause-alive c =
    let past : size c.args.net.now ≤ c.loop-instance.instance = (let all = c.instances-instance-end.ensures in let test = c.loop-instance-test.false in omega arith) in
    filled_all (size c.args.net.now) (λ i. has c.args.before.now i && not (has c.args.active.now i && not (has c.args.undead.now i))) true c.loop-instance.instance c.loop-instance.found past c.loop-instance.invariant
