use Rattle.std.proofs.Common.{arith, get_or}
use Rattle.std.specs.Prelude.{◌+◌, ◌^◌, ◌<◌, slice_index}
use Rattle.std.proofs.lemmas.List.Elements.{All-more}
use Rattle.wide_sums.specs.declared.rows.Cell.{Cell}
use Rattle.wide_sums.specs.Cells.{amount}
use Rattle.pt_net.proofs.Fits.{All-whole, below_limit, room_each}
use Rattle.pt_net.proofs.markings.has_room.Goals as goal

pub loop-cell-preserved : goal.loop-cell-preserved
loop-cell-preserved c =
    All-more (λ (d : Cell). slice_index c.args.counts.now d.at + d.count < 2 ^ 63 + amount d.at c.args.pre.now) c.args.post.now c.loop-cell.cell-index (record { at = 0; count = 0 }) c.loop-cell-test.true c.loop-cell.invariant
    (let limit = below_limit c.args.counts.now (get_or c.args.post.now c.loop-cell.cell-index (record { at = 0; count = 0 })).at c.requires.counts in
    omega arith)

pub returns : goal.returns
returns c =
    room_each c.args.counts.now c.args.pre.now c.args.post.now c.requires.counts c.requires.post
    (All-whole (λ (d : Cell). slice_index c.args.counts.now d.at + d.count < 2 ^ 63 + amount d.at c.args.pre.now) c.args.post.now c.loop-cell.cell-index c.loop-cell-test.false c.loop-cell.invariant)
