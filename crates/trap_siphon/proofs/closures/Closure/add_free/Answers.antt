use Rattle.std.proofs.Common.{◌∙◌}
use Rattle.pt_net.specs.Systems.{post}
use Rattle.trap_siphon.proofs.Adding.{free_more}
use Rattle.trap_siphon.proofs.closures.Closure.add_free.Goals as goal

pub loop-instance-preserved : goal.loop-instance-preserved
loop-instance-preserved c = record {
  adds = free_more c.args.self.now.missing.items c.args.active.now (post c.args.net.now) c.loop-instance.instance
      c.args.self.now.set c.loop-instance.self.set c.serve.new.self.set c.args.self.now.order.items c.loop-instance.self.order.items c.serve.new.self.order.items
      c.loop-instance.invariant.adds (rw c.loop-instance.invariant.missing at c.in_ok-serve.ensures.adds);
  missing = c.in_ok-serve.ensures.missing ∙ c.loop-instance.invariant.missing;
}
