use Rattle.std.proofs.Common.{◌≡◌, ◌≢◌, ℕ, ◌+◌, ◌*◌, ◌<◌, ◌≤◌, ◌++◌, ◌∷◌, [], take, get_or, ap, sym, ◌∙◌, subst, refl, arith}
use Rattle.std.proofs.Math.Nat.{mul-le-mul_left}
use Rattle.std.proofs.lemmas.List.{take_more}
use Rattle.std.proofs.lemmas.List.Sums.{get_or-le-sum_by, sum_by_push}
use Rattle.wide_sums.specs.Cells.{amount, count_at}
use Rattle.wide_sums.proofs.Amounts.{count_at-same, count_at-other}
use Rattle.multiset_terms.specs.Buffers.{Gains}
use Rattle.multiset_terms.specs.Rows.{no_cell, total}
use Rattle.multiset_terms.proofs.Gaining.{gain-none, gain-one}
use Rattle.multiset_terms.proofs.buffers.add_row.Goals as goal

pub loop-cell-init : goal.loop-cell-init
loop-cell-init c = λ size below. gain-none c.args.scale size (λ q. amount q (take 0 c.args.row.now)) c.args.cells.now.items (λ q. refl)

pub push-requires-clause-fits : goal.push-requires-clause-fits
push-requires-clause-fits c =
    let row = c.args.row.now in
    let part = get_or-le-sum_by (λ d. d.count) row c.loop-cell.cell-index no_cell c.loop-cell-test.true in
    let less : c.args.scale.times * (get_or row c.loop-cell.cell-index no_cell).count ≤ c.args.scale.times * total row = mul-le-mul_left c.args.scale.times part in
    omega (arith, less, c.requires.fits)

pub loop-cell-preserved : goal.loop-cell-preserved
loop-cell-preserved c = λ size below.
    let row = c.args.row.now in
    let i = c.loop-cell.cell-index in
    let cell = get_or row i no_cell in
    let inside = c.loop-cell-test.true in
    let more : take (i + 1) row ≡ take i row ++ cell ∷ [] = take_more row i no_cell inside in
    subst (λ n. Gains c.args.scale size (λ q. amount q (take (i + 1) row)) n c.args.cells.now.items c.push.new.cells.items)
    (sym (ap total more ∙ sum_by_push (λ d. d.count) (take i row) cell))
    (gain-one c.args.scale size (λ q. amount q (take i row)) (λ q. amount q (take (i + 1) row)) (total (take i row)) cell.at cell.count c.args.cells.now.items c.loop-cell.cells.items c.push.new.cells.items
    (c.loop-cell.invariant size below) (below i no_cell inside)
    (ap (amount cell.at) more ∙ sum_by_push (count_at cell.at) (take i row) cell ∙ ap (λ n. amount cell.at (take i row) + n) (count_at-same cell.at cell refl))
    (λ q away. let x = ap (amount q) more ∙ sum_by_push (count_at q) (take i row) cell in let y = count_at-other q cell (λ same. away (sym same)) in omega (arith, x, y))
    c.in_ok-push.ensures)
