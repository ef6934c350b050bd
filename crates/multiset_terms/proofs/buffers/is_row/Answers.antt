use Rattle.std.proofs.Common.{◌≡◌, ◌+◌, ◌<◌, ◌++◌, [], ◌∷◌, take, get_or, length, ap, sym, subst, refl, arith}
use Rattle.std.proofs.lemmas.List.{take_more}
use Rattle.std.proofs.lemmas.List.Elements.{All-push}
use Rattle.std.proofs.lemmas.List.Sums.{get_or-le-sum_by}
use Rattle.wide_sums.specs.Cells.{IsRow, count_at}
use Rattle.wide_sums.proofs.Amounts.{count_at-same}
use Rattle.multiset_terms.specs.Rows.{AreBelow, no_cell}
use Rattle.multiset_terms.proofs.Joining.{row-push}
use Rattle.multiset_terms.proofs.buffers.is_row.Goals as goal

pub loop-cell-preserved : goal.loop-cell-preserved
loop-cell-preserved c =
    let cells = c.args.cells.now in
    let i = c.loop-cell.cell-index in
    let cell = get_or cells i no_cell in
    let front = take i cells in
    let more : take (i + 1) cells ≡ front ++ cell ∷ [] = take_more cells i no_cell c.loop-cell-test.true in
    let low : AreBelow cell.at front = λ k d within. let b = c.loop-cell.invariant.next k d within in omega (arith, b, c.if-cell-next.false) in
    let part = get_or-le-sum_by (count_at cell.at) cells i no_cell c.loop-cell-test.true in
    let own = count_at-same cell.at cell refl in
    let fits = c.requires cell.at in
    record {
      front = subst IsRow (sym more) (row-push front cell c.loop-cell.invariant.front low (omega (arith, c.if-cell-eq0.false)) (omega (arith, part, own, fits)));
      next = subst (AreBelow (cell.at + 1)) (sym more) (All-push (λ d. d.at < cell.at + 1) front cell (λ k d within. let b = low k d within in omega (arith, b)) (omega arith));
    }
