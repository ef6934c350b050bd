use Rattle.std.proofs.Common.{◌≡◌, ℕ, ◌+◌, ◌-◌, ◌<◌, ◌≤◌, ◌^◌, take, drop, get_or, length, ap, sym, subst, ◌∙◌, arith}
use Rattle.std.specs.Prelude.{All}
use Rattle.std.proofs.lemmas.List.{get_or_default}
use Rattle.std.proofs.lemmas.List.Sums.{sum_by-drop_more}
use Rattle.wide_sums.specs.declared.rows.Cell.{Cell}
use Rattle.wide_sums.specs.Cells.{amount, count_at}
use Rattle.multiset_terms.specs.Rows.{AreBelow, no_cell}
use Rattle.multiset_terms.proofs.Joining.{rest-behind, same-behind}
use Rattle.multiset_terms.proofs.buffers.join.Goals as goal

pub take_in-kept-requires-clause-later : goal.take_in-kept-requires-clause-later
take_in-kept-requires-clause-later c =
    let same = same-behind c.loop-read.cells.items c.args.cells.now.items c.loop-read.read no_cell c.loop-read.invariant.rest in
    rw same (c.loop-read.invariant.later c.loop-read.read no_cell (omega arith) (omega (arith, c.loop-read-test.true, c.loop-read.auto.read-end, c.loop-read.invariant.many)))

pub take_in-kept-requires-clause-fits : goal.take_in-kept-requires-clause-fits
take_in-kept-requires-clause-fits c = λ p.
    let old = c.args.cells.now.items in
    let i = c.loop-read.read in
    let same = ap (count_at p) (same-behind c.loop-read.cells.items old i no_cell c.loop-read.invariant.rest) in
    let inside : i < length old = omega (arith, c.loop-read-test.true, c.loop-read.auto.read-end, c.loop-read.invariant.many) in
    let whole = c.loop-read.invariant.counts p in
    let split = sum_by-drop_more (count_at p) old i no_cell inside in
    let fits = c.requires.fits p in
    omega (arith, same, whole, split, fits)

pub loop-read-preserved : goal.loop-read-preserved
loop-read-preserved c =
    let old = c.args.cells.now.items in
    let now = c.loop-read.cells.items in
    let new = c.take_in-kept.new.cells.items in
    let i = c.loop-read.read in
    let taken = c.take_in-kept.ensures in
    let known = c.loop-read.invariant in
    let same = same-behind now old i no_cell known.rest in
    let inside : i < length old = omega (arith, c.loop-read-test.true, c.loop-read.auto.read-end, known.many) in
    let there : i < length now = omega (arith, inside, known.many) in
    record {
      order = taken.order;
      many = taken.many ∙ known.many;
      rest = taken.rest ∙ rest-behind now old i there inside known.rest;
      front = taken.front;
      counts = λ p.
          let step = taken.counts p in
          let cell = ap (count_at p) same in
          let whole = known.counts p in
          let split = sum_by-drop_more (count_at p) old i no_cell inside in
          omega (arith, step, cell, whole, split);
      elements =
          let step = taken.elements in
          let cell = ap (λ x. x.count) same in
          let whole = known.elements in
          let split = sum_by-drop_more (λ x. x.count) old i no_cell inside in
          omega (arith, step, cell, whole, split);
      later = λ j d low within k e short.
          let first = taken.later k e short in
          let here = ap (λ x. x.at) same in
          let up = c.requires.sorted i j no_cell (omega (arith, low)) within in
          let other = ap (λ x. x.at) (get_or_default old j no_cell d within) in
          omega (arith, first, here, up, other);
      below = λ bound all.
          let here = ap (λ x. x.at) same in
          let less = all i no_cell inside in
          taken.below bound (known.below bound all) (omega (arith, here, less));
    }
