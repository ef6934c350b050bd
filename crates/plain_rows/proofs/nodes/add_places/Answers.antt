use Rattle.std.proofs.Common.{arith}
use Rattle.plain_rows.specs.Nodes.{IsFreshPlace}
use Rattle.plain_rows.proofs.Distinct.{added_more, all_more}
use Rattle.plain_rows.proofs.nodes.add_places.Goals as goal

pub loop-place-preserved : goal.loop-place-preserved
loop-place-preserved c =
    let x = c.place-item.result in
    let xs = c.args.places.now in
    let i = c.loop-place.place-index in (
      added_more (λ place. place.id) c.args.ids.now c.loop-place.ids _ xs i x c.loop-place-test.true c.place-item.is c.loop-place.invariant.0 c.in_ok-add_node.ensures.added,
      c.in_ok-add_node.ensures.numbered,
      all_more IsFreshPlace xs i x c.loop-place-test.true c.place-item.is c.loop-place.invariant.2 (record { id = c.in_ok-add_node.ensures.id; marking = omega arith }),
    )
