use Rattle.std.proofs.Common.{◌-◌, ◌/◌, ◌%◌, arith, get_or}
use Rattle.wide_sums.specs.declared.rows.Cell.{Cell}
use Rattle.multiset_terms.specs.Trees.{is_between, once}
use Rattle.multiset_terms.proofs.RowLaws.{below-more}
use Rattle.multiset_terms.proofs.Joining.{front-below}
use Rattle.multiset_terms.proofs.Fronts.{fronts-amount, fronts-total, room-below}
use Rattle.multiset_terms.proofs.cells.extended.Goals as goal

pub loop-front-preserved : goal.loop-front-preserved
loop-front-preserved c =
    let fronts = c.args.fronts.now in
    let i = c.loop-front.front-index in
    let none : Cell = record { at = 0; count = 0 } in
    let known = c.loop-front.invariant in
    record {
      counts = λ p.
          let factor = once (is_between c.args.from c.args.to (p % c.args.size)) in
          let more = fronts-amount p (p / c.args.size) i fronts none factor c.loop-front-test.true in
          let old = known.counts p in
          let step = c.in_ok-extend.ensures.counts p in
          omega (arith, more, old, step);
      total =
          let more = fronts-total i fronts none (c.args.to - c.args.from) c.loop-front-test.true in
          let step = c.in_ok-extend.ensures.total in
          omega (arith, more, step, known.total);
      below = λ lead below.
          let both = below-more lead fronts i none c.loop-front-test.true below in
          let room = room-below (get_or fronts i none).at c.args.size lead both.1 in
          λ k d within. let b = c.in_ok-extend.ensures.below k d within in omega (arith, b, room);
    }

pub extend-requires-clause-before : goal.extend-requires-clause-before
extend-requires-clause-before c =
    c.loop-front.invariant.below _ (front-below c.args.fronts.now c.loop-front.front-index (record { at = 0; count = 0 }) c.requires.row.rising c.loop-front-test.true)
