use Rattle.std.proofs.Common.{◌≡◌, ◌<◌, ◌-◌, ◌+◌, ap, sym, subst, set, get_or, ◌∙◌, arith}
use Rattle.multiset_terms.specs.Rows.{IsTakenIn, no_cell}
use Rattle.multiset_terms.proofs.Joining.{as-read, both, joins, grows}
use Rattle.multiset_terms.proofs.buffers.take_in.Goals as goal
use Rattle.multiset_terms.proofs.buffers.take_in.Goals.{else-kept-gt0-via-then-kept-gt0+else-index-cell, else-kept-gt0-via-else-kept-gt0}

pub returns-then-index-cell : goal.returns-then-index-cell
returns-then-index-cell c =
    let xs = c.args.cells.now.items in
    let kept = c.args.kept in
    let read = c.args.read in
    let cell = as-read xs read c.index-cell.result.now c.index-cell.ensures c.requires.within in
    let seen = as-read xs (kept - 1) c.index.result.now c.index.ensures (omega (arith, c.requires.order, c.requires.within)) in
    let last = as-read xs (kept - 1) c.index_mut.result.now c.index_mut.ensures.value (omega (arith, c.requires.order, c.requires.within)) in
    subst (λ a. IsTakenIn xs kept read (set xs (kept - 1) (both a c.index-cell.result.now)) kept) (sym last)
    (subst (λ a. IsTakenIn xs kept read (set xs (kept - 1) (both (get_or xs (kept - 1) no_cell) a)) kept) (sym cell)
    (joins xs kept read c.if-kept-gt0.true c.requires.order c.requires.within c.requires.front c.requires.fits
    (ap (λ a. a.at) (sym seen) ∙ c.if-index-cell.true ∙ ap (λ a. a.at) cell)))

pub returns : goal.returns
returns c =
    let xs = c.args.cells.now.items in
    let kept = c.args.kept in
    let read = c.args.read in
    let cell = as-read xs read c.index-cell.result.now c.index-cell.ensures c.requires.within in
    let some = ap (λ a. a.count) cell in
    let there = ap (λ a. a.at) cell in
    subst (λ a. IsTakenIn xs kept read (set xs kept a) (kept + 1)) (sym cell)
    (grows xs kept read c.requires.order c.requires.within c.requires.front c.requires.later c.requires.fits (omega (arith, c.if-cell-eq0.false, some))
    (λ more. elim c.else-kept-gt0.branch [
      | else-kept-gt0-via-then-kept-gt0+else-index-cell w ↦ λ same. w.if-index-cell.false (ap (λ a. a.at) (as-read xs (kept - 1) w.index.result.now w.index.ensures (omega (arith, c.requires.order, c.requires.within))) ∙ same ∙ sym there)
      | else-kept-gt0-via-else-kept-gt0 w ↦ absurd (omega (arith, more, w.if-kept-gt0.false))
    ]))
