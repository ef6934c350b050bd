use Rattle.std.proofs.Common.{◌∙◌, ap, length}
use Rattle.pt_net.specs.Systems.{places}
use Rattle.trap_siphon.proofs.Stages.{length-stage}
use Rattle.trap_siphon.proofs.Adding.{listed_none}
use Rattle.trap_siphon.proofs.Finishing.{closing_first}
use Rattle.trap_siphon.proofs.closures.marked_support.Goals as goal

pub add_marked-requires-clause-listed : goal.add_marked-requires-clause-listed
add_marked-requires-clause-listed g c = rw c.in_ok-closure.ensures.order (listed_none c.in_ok-closure.closure.set c.in_ok-closure.ensures.empty)

pub close-requires-clause-closing : goal.close-requires-clause-closing
close-requires-clause-closing g c =
    rw (c.in_ok-add_free.ensures.missing, c.in_ok-add_marked.ensures.missing)
    (closing_first c.args.net.now c.args.packed.now c.args.active.now c.args.marking.now c.in_ok-closure.closure.set c.add_marked.new.self.set c.add_free.new.self.set
    c.in_ok-closure.closure.order.items c.add_marked.new.self.order.items c.add_free.new.self.order.items c.in_ok-closure.closure.missing.items
    c.requires.packed c.requires.marking c.in_ok-closure.ensures.set c.in_ok-closure.ensures.empty c.in_ok-closure.ensures.missing
    (rw c.counts.ensures.counts at c.in_ok-add_marked.ensures.adds) (rw c.in_ok-add_marked.ensures.missing at c.in_ok-add_free.ensures.adds))

pub returns-clause-as_long : goal.returns-clause-as_long
returns-clause-as_long g c = ap length c.in_ok-close.ensures.closed ∙ length-stage c.args.net.now c.args.active.now c.args.marking.now (places c.args.net.now)
