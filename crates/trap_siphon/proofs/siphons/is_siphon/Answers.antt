use Rattle.std.proofs.Common.{◌≡◌, ◌∙◌, ◌<◌, ◌≤◌, false, sym, arith}
use Rattle.pt_net.specs.Systems.{size}
use Rattle.trap_siphon.specs.Siphons.{keeps_siphon}
use Rattle.trap_siphon.proofs.Touching.{siphon_all, siphon_not}
use Rattle.trap_siphon.proofs.siphons.is_siphon.Goals as goal

pub returns-then-not-siphon_true : goal.returns-then-not-siphon_true
returns-then-not-siphon_true c =
    let inside : c.loop-instance.instance < size c.args.net.now = (let all = c.instances-instance-end.ensures in let test = c.loop-instance-test.true in omega arith) in
    let off : keeps_siphon c.args.net.now c.args.set.now c.loop-instance.instance ≡ false = sym c.siphon_true.ensures ∙ c.if-not-siphon_true.true in
    sym (siphon_not c.args.net.now c.args.set.now c.loop-instance.instance inside off)

pub returns : goal.returns
returns c =
    let past : size c.args.net.now ≤ c.loop-instance.instance = (let all = c.instances-instance-end.ensures in let test = c.loop-instance-test.false in omega arith) in
    sym (siphon_all c.args.net.now c.args.set.now c.loop-instance.instance past c.loop-instance.invariant)
