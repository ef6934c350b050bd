use Rattle.std.proofs.Common.{◌≡◌, arith, ap, subst}
use Rattle.pt_net.specs.Systems.{NetSystem, size}
use Rattle.reductions.specs.Merged.{IsMerging}
use Rattle.reductions.proofs.Joining.{merging_first}
use Rattle.reductions.proofs.merging.Merging.of.Goals as goal

pub loop-instance-init : goal.loop-instance-init
loop-instance-init c = record {
  initial = ap (λ (n : NetSystem). n.initial) c.in_ok-merging.ensures.kept;
  merged = merging_first c.args.view.now.net.now c.args.view.now.round.now.constant c.args.view.now.round.now.live c.in_ok-merging.merging.keys c.in_ok-merging.merging.fates.items c.in_ok-merging.merging.kept.instances
      c.in_ok-merging.ensures.keys c.in_ok-merging.ensures.fates (ap (λ (n : NetSystem). n.instances) c.in_ok-merging.ensures.kept);
}

pub returns-clause-merging : goal.returns-clause-merging
returns-clause-merging c =
    let at_end : c.loop-instance.instance ≡ size c.args.view.now.net.now = (let all = c.instances-instance-end.ensures in let test = c.loop-instance-test.false in let top = c.loop-instance.auto.instance-end in omega arith) in
    subst (λ k. IsMerging c.args.view.now.net.now c.args.view.now.round.now.constant c.args.view.now.round.now.live k c.loop-instance.merging.keys c.loop-instance.merging.fates.items c.loop-instance.merging.kept.instances) at_end c.loop-instance.invariant.merged
