use Rattle.std.proofs.Common.{◌≡◌, ℕ, ◌+◌, ◌-◌, ◌*◌, ◌<◌, ◌≤◌, ◌++◌, ◌∷◌, [], take, get_or, length, ap, sym, subst, ◌∙◌, refl, arith}
use Rattle.std.proofs.Math.Nat.{mul-le-mul_left}
use Rattle.std.proofs.lemmas.List.{take_all, take_more}
use Rattle.std.proofs.lemmas.List.Sums.{get_or-le-sum_by, sum_by_push}
use Rattle.wide_sums.specs.Cells.{amount}
use Rattle.multiset_terms.specs.Buffers.{Gains, cell_of}
use Rattle.multiset_terms.specs.Rows.{AreBelow, AreRead, no_cell, total}
use Rattle.multiset_terms.proofs.Gaining.{gain-more, gain-none, gain-one, gain-same}
use Rattle.multiset_terms.proofs.SideBySide.{all-within, difference-away, difference-there, read-none, short-before}
use Rattle.multiset_terms.proofs.differences.push_difference.Goals as goal

pub loop-at-init : goal.loop-at-init
loop-at-init c = record {
  read = read-none c.args.whole.now c.args.part.now;
  gains = λ size below. gain-none c.args.scale size (λ q. amount q (take 0 c.args.whole.now) - amount q (take 0 c.args.part.now)) c.args.cells.now.items (λ q. refl);
}

pub push-requires-clause-fits : goal.push-requires-clause-fits
push-requires-clause-fits c =
    let whole = c.args.whole.now in
    let cell = get_or whole c.loop-at.at no_cell in
    let part = get_or-le-sum_by (λ d. d.count) whole c.loop-at.at no_cell c.loop-at-test.true in
    let less : c.args.scale.times * (cell.count - c.in-Some.less) ≤ c.args.scale.times * total whole = mul-le-mul_left c.args.scale.times (omega (arith, part)) in
    omega (arith, less, c.requires.fits)

pub loop-at-preserved : goal.loop-at-preserved
loop-at-preserved c =
    let whole = c.args.whole.now in
    let part = c.args.part.now in
    let at = c.loop-at.at in
    let cell = get_or whole at no_cell in
    let step = c.in-Some.ensures.taken in
    let inside = c.loop-at-test.true in
    let f : ℕ → ℕ = λ q. amount q (take at whole) - amount q (take c.loop-at.taken part) in
    let g : ℕ → ℕ = λ q. amount q (take (at + 1) whole) - amount q (take c.in-Some.next part) in
    let grown : total (take (at + 1) whole) ≡ total (take at whole) + cell.count = ap total (take_more whole at no_cell inside) ∙ sum_by_push (λ d. d.count) (take at whole) cell in
    record {
      read = step.read;
      gains = λ size below.
          gain-more c.args.scale size g (total (take at whole) + (cell.count - c.in-Some.less)) (total (take (at + 1) whole)) c.args.cells.now.items c.push.new.cells.items
          (gain-one c.args.scale size f g (total (take at whole)) cell.at (cell.count - c.in-Some.less) c.args.cells.now.items c.loop-at.cells.items c.push.new.cells.items
          (c.loop-at.invariant.gains size below) (below at no_cell inside)
          (difference-there whole part at c.loop-at.taken c.in-Some.less c.in-Some.next c.requires.whole inside c.loop-at.invariant.read step)
          (λ q away. difference-away whole part at c.loop-at.taken c.in-Some.less c.in-Some.next q inside step away)
          c.in_ok-push.ensures)
          (omega (arith, grown));
    }

pub returns-then-taken-part-clause-negative : goal.returns-then-taken-part-clause-negative
returns-then-taken-part-clause-negative c = λ negative.
    short-before c.args.whole.now c.args.part.now c.loop-at.at c.loop-at.taken c.requires.whole c.requires.part (omega (arith, c.loop-at.auto.at-end)) c.loop-at.invariant.read c.if-taken-part.true
    (λ inside. absurd (omega (arith, inside, c.loop-at-test.false)))
