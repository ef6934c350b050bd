use Rattle.std.proofs.Common.{◌≡◌, get_or, true, false, sym}
use Rattle.std.proofs.lemmas.List.Elements.{All-more}
use Rattle.wide_sums.specs.declared.rows.Cell.{Cell}
use Rattle.pt_net.specs.Instances.{row_of}
use Rattle.pt_net.specs.Systems.{instance_at}
use Rattle.trap_siphon.specs.Sets.{has}
use Rattle.trap_siphon.proofs.Touching.{touches_at, touches_none}
use Rattle.trap_siphon.proofs.siphons.touches.Goals as goal

pub returns-then-has : goal.returns-then-has
returns-then-has c =
    let here : has c.args.set.now (get_or c.cells-cell-items.result.now c.loop-cell.cell-index (record { at = 0; count = 0 })).at ≡ true = cc in
    sym (touches_at c.args.net.now c.args.set.now c.cells-cell-items.result.now (row_of c.args.side (instance_at c.args.net.now c.args.instance)) c.loop-cell.cell-index (record { at = 0; count = 0 })
    c.cells-cell-items.ensures.cells c.cells-cell-items.ensures.row c.cells-cell-items.ensures.in_range c.loop-cell-test.true here)

pub loop-cell-preserved : goal.loop-cell-preserved
loop-cell-preserved c =
    let off : has c.args.set.now (get_or c.cells-cell-items.result.now c.loop-cell.cell-index (record { at = 0; count = 0 })).at ≡ false = cc in
    All-more (λ (d : Cell). has c.args.set.now d.at ≡ false) c.cells-cell-items.result.now c.loop-cell.cell-index (record { at = 0; count = 0 }) c.loop-cell-test.true c.loop-cell.invariant off

pub returns : goal.returns
returns c = sym (touches_none c.args.net.now c.args.set.now c.cells-cell-items.result.now (row_of c.args.side (instance_at c.args.net.now c.args.instance)) c.loop-cell.cell-index c.cells-cell-items.ensures.cells c.loop-cell-test.false c.loop-cell.invariant)
