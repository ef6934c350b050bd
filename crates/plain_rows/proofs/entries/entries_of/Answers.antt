use Rattle.plain_rows.proofs.Rows.{entries_more}
use Rattle.plain_rows.proofs.entries.entries_of.Goals as goal

pub loop-arc-preserved : goal.loop-arc-preserved
loop-arc-preserved c = (
  c.as_slice-arcs.ensures,
  rw c.in_ok-push-in-Some.ensures.items (entries_more c.args.net.now c.as_slice-arcs.result.now c.loop-arc.entries.items c.loop-arc.arc-index c.arc-item.result c.in-Some.entry
      c.loop-arc-test.true c.arc-item.is c.loop-arc.invariant.1 c.in-Some.ensures),
)
