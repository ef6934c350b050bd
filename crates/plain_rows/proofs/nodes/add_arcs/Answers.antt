use Rattle.std.proofs.Common.{arith}
use Rattle.plain_rows.specs.Nodes.{IsFreshArc}
use Rattle.plain_rows.proofs.Distinct.{added_more, all_more}
use Rattle.plain_rows.proofs.nodes.add_arcs.Goals as goal

pub loop-arc-preserved : goal.loop-arc-preserved
loop-arc-preserved c =
    let x = c.arc-item.result in
    let xs = c.args.arcs.now in
    let i = c.loop-arc.arc-index in (
      added_more (λ arc. arc.id) c.args.ids.now c.loop-arc.ids _ xs i x c.loop-arc-test.true c.arc-item.is c.loop-arc.invariant.0 c.in_ok-add_node.ensures.added,
      c.in_ok-add_node.ensures.numbered,
      all_more IsFreshArc xs i x c.loop-arc-test.true c.arc-item.is c.loop-arc.invariant.2 (record { id = c.in_ok-add_node.ensures.id; positive = omega arith; weight = omega arith }),
    )
