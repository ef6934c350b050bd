use Rattle.plain_model.specs.Plain.{IsId}
use Rattle.plain_rows.proofs.Distinct.{added_more_names, all_more}
use Rattle.plain_rows.proofs.nodes.add_transitions.Goals as goal

pub loop-transition-preserved : goal.loop-transition-preserved
loop-transition-preserved c =
    let x = c.transition-item.result in
    let xs = c.args.transitions.now in
    let i = c.loop-transition.transition-index in (
      added_more_names c.args.ids.now c.loop-transition.ids _ xs i x c.loop-transition-test.true c.transition-item.is c.loop-transition.invariant.0 c.in_ok-add_node.ensures.added,
      c.in_ok-add_node.ensures.numbered,
      all_more IsId xs i x c.loop-transition-test.true c.transition-item.is c.loop-transition.invariant.2 c.in_ok-add_node.ensures.id,
    )
