use Rattle.std.proofs.Common.{◌≡◌, ◌+◌, ◌-◌, ◌*◌, ◌/◌, ◌%◌, ◌<◌, ◌≤◌, ap, subst, sym, ◌∙◌, arith}
use Rattle.std.proofs.lemmas.List.Elements.{All-push}
use Rattle.std.proofs.lemmas.List.Sums.{sum_by_push}
use Rattle.wide_sums.specs.declared.rows.Cell.{Cell}
use Rattle.wide_sums.specs.Cells.{amount, count_at}
use Rattle.multiset_terms.specs.Rows.{AreBelow, total}
use Rattle.multiset_terms.specs.Trees.{is_between, once}
use Rattle.multiset_terms.proofs.Fronts.{extend-step, total-step}
use Rattle.multiset_terms.proofs.cells.extend.Goals as goal

pub loop-choice-preserved : goal.loop-choice-preserved
loop-choice-preserved c =
    let at = c.args.front.at * c.args.size in
    let choice = c.loop-choice.choice in
    let cell : Cell = record { at = at + choice; count = c.args.front.count } in
    let known = c.loop-choice.invariant in
    let pushed = c.in_ok-push.ensures.ok in
    let low : c.args.from ≤ choice = omega (arith, c.loop-choice.auto.choice) in
    let inside : choice < c.args.size = omega (arith, c.loop-choice-test.true, c.requires.choice) in
    record {
      counts = λ p.
          let more = ap (amount p) pushed ∙ sum_by_push (count_at p) c.loop-choice.row cell in
          let step = extend-step p c.args.size choice c.args.from c.args.front inside low in
          let old = known.counts p in
          omega (arith, more, step, old);
      total = ap total pushed ∙ total-step c.loop-choice.row cell (total c.args.row.now) choice c.args.from low known.total;
      below = subst (AreBelow (at + (choice + 1))) (sym pushed)
          (All-push (λ d. d.at < at + (choice + 1)) c.loop-choice.row cell (λ k d within. let b = known.below k d within in omega (arith, b)) (omega arith));
    }

pub returns-clause-counts : goal.returns-clause-counts
returns-clause-counts c = λ p.
    let last : c.loop-choice.choice ≡ c.args.to = omega (arith, c.loop-choice-test.false, c.loop-choice.auto.choice-end, c.requires.order) in
    subst (λ n. amount p c.loop-choice.row ≡ amount p c.args.row.now + count_at (p / c.args.size) c.args.front * once (is_between c.args.from n (p % c.args.size))) last (c.loop-choice.invariant.counts p)

pub returns-clause-total : goal.returns-clause-total
returns-clause-total c =
    let last : c.loop-choice.choice ≡ c.args.to = omega (arith, c.loop-choice-test.false, c.loop-choice.auto.choice-end, c.requires.order) in
    subst (λ n. total c.loop-choice.row ≡ total c.args.row.now + c.args.front.count * (n - c.args.from)) last c.loop-choice.invariant.total

pub returns-clause-below : goal.returns-clause-below
returns-clause-below c = λ k d within.
    let last : c.loop-choice.choice ≤ c.args.size = omega (arith, c.loop-choice.auto.choice-end, c.requires.order, c.requires.choice) in
    let b = c.loop-choice.invariant.below k d within in
    omega (arith, b, last)
