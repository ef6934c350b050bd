use Rattle.std.proofs.Common.{◌≡◌, ◌∙◌, [], arith, sym, ap, subst, take, get_or, append-nil}
use Rattle.pt_net.specs.Systems.{size}
use Rattle.trap_siphon.specs.Closing.{IsClosing, left, spent_to}
use Rattle.std.proofs.lemmas.Grind.{get_or_default_zero}
use Rattle.pt_net.proofs.Lower.{lower_le}
use Rattle.trap_siphon.proofs.Adding.{take_next, extended_more}
use Rattle.trap_siphon.proofs.Spending.{some_waits, left_step, closing_step, closing_begin, closing_end, left_begin, left_end}
use Rattle.trap_siphon.proofs.Finishing.{at_entry}
use Rattle.trap_siphon.proofs.closures.Closure.spread.Goals as goal

pub loop-k-init : goal.loop-k-init
loop-k-init g c = record {
  closing = rw c.first-k.ensures (closing_begin c.args.task.now.net.now c.args.task.now.packed.now c.args.task.now.active.now c.args.task.now.marking.now (take c.args.next c.args.self.now.order.items) c.index-place.result.now
      c.args.self.now.set c.args.self.now.order.items c.args.self.now.missing.items c.requires.packed c.requires.closing);
  keeps = λ p had. had;
  more = ([], sym (append-nil c.args.self.now.order.items));
  steps = rw c.first-k.ensures (let same = left_begin c.args.task.now.net.now c.args.task.now.packed.now (take c.args.next c.args.self.now.order.items) c.index-place.result.now c.requires.packed in omega arith);
}

pub spend-requires-clause-some : goal.spend-requires-clause-some
spend-requires-clause-some g c =
    let here : c.index-place.result.now ≡ get_or c.args.self.now.order.items c.args.next 0 = c.index-place.ensures ∙ get_or_default_zero c.args.self.now.order.items c.args.next c.index-place.result.now c.requires.next in
    let at = at_entry c.args.task.now.net.now c.args.task.now.packed.now c.args.self.now.set c.loop-k.self.set c.args.self.now.order.items c.args.next c.index-place.result.now c.loop-k.k c.first-k.result c.first-k-end.result
    c.requires.packed c.requires.closing.listed c.requires.next here c.first-k.ensures c.first-k-end.ensures c.loop-k.auto.k c.loop-k-test.true c.loop-k.invariant.keeps in
    some_waits c.args.task.now.net.now c.args.task.now.packed.now c.args.task.now.active.now c.args.task.now.marking.now (take c.args.next c.args.self.now.order.items) c.index-place.result.now c.loop-k.k
    c.loop-k.self.set c.loop-k.self.order.items c.loop-k.self.missing.items at.next at.inside c.loop-k.invariant.closing

pub returns-in_err-spend-clause-most : goal.returns-in_err-spend-clause-most
returns-in_err-spend-clause-most g c =
    let here : c.index-place.result.now ≡ get_or c.args.self.now.order.items c.args.next 0 = c.index-place.ensures ∙ get_or_default_zero c.args.self.now.order.items c.args.next c.index-place.result.now c.requires.next in
    let at = at_entry c.args.task.now.net.now c.args.task.now.packed.now c.args.self.now.set c.loop-k.self.set c.args.self.now.order.items c.args.next c.index-place.result.now c.loop-k.k c.first-k.result c.first-k-end.result
    c.requires.packed c.requires.closing.listed c.requires.next here c.first-k.ensures c.first-k-end.ensures c.loop-k.auto.k c.loop-k-test.true c.loop-k.invariant.keeps in
    let one = left_step c.args.task.now.net.now c.args.task.now.packed.now (take c.args.next c.args.self.now.order.items) c.index-place.result.now c.loop-k.k c.loop-k.self.set at.next in
    let step = c.in_err-spend.ensures.step in
    let before = c.loop-k.invariant.steps in
    omega arith

pub loop-k-preserved : goal.loop-k-preserved
loop-k-preserved g c =
    let here : c.index-place.result.now ≡ get_or c.args.self.now.order.items c.args.next 0 = c.index-place.ensures ∙ get_or_default_zero c.args.self.now.order.items c.args.next c.index-place.result.now c.requires.next in
    let at = at_entry c.args.task.now.net.now c.args.task.now.packed.now c.args.self.now.set c.loop-k.self.set c.args.self.now.order.items c.args.next c.index-place.result.now c.loop-k.k c.first-k.result c.first-k-end.result
    c.requires.packed c.requires.closing.listed c.requires.next here c.first-k.ensures c.first-k-end.ensures c.loop-k.auto.k c.loop-k-test.true c.loop-k.invariant.keeps in
    record {
      closing = rw c.in_ok-spend.ensures.missing (closing_step c.args.task.now.net.now c.args.task.now.packed.now c.args.task.now.active.now c.args.task.now.marking.now (take c.args.next c.args.self.now.order.items) c.index-place.result.now c.loop-k.k
          c.loop-k.self.set c.spend.new.self.set c.loop-k.self.order.items c.spend.new.self.order.items c.loop-k.self.missing.items c.requires.packed at.next at.inside c.loop-k.invariant.closing c.in_ok-spend.ensures.adds);
      keeps = λ p had. c.in_ok-spend.ensures.adds.keeps p (c.loop-k.invariant.keeps p had);
      more = extended_more c.args.self.now.order.items c.loop-k.self.order.items c.spend.new.self.order.items c.loop-k.invariant.more c.in_ok-spend.ensures.adds.more;
      steps = let one = left_step c.args.task.now.net.now c.args.task.now.packed.now (take c.args.next c.args.self.now.order.items) c.index-place.result.now c.loop-k.k c.loop-k.self.set at.next in
          let step = c.in_ok-spend.ensures.step in
          let before = c.loop-k.invariant.steps in
          omega arith;
    }

pub returns-clause-closing : goal.returns-clause-closing
returns-clause-closing g c =
    let here : c.index-place.result.now ≡ get_or c.args.self.now.order.items c.args.next 0 = c.index-place.ensures ∙ get_or_default_zero c.args.self.now.order.items c.args.next c.index-place.result.now c.requires.next in
    let at_end : c.loop-k.k ≡ c.first-k-end.result =
    let first = c.first-k.ensures in
    let last = c.first-k-end.ensures in
    let order = lower_le c.args.task.now.packed.now c.index-place.result.now in
    let up = c.loop-k.auto.k-end in
    let down = c.loop-k-test.false in
    omega arith in
    let taken = take_next c.args.self.now.order.items c.loop-k.self.order.items c.args.next c.requires.next c.loop-k.invariant.more in
    rw (taken, ← here) (closing_end c.args.task.now.net.now c.args.task.now.packed.now c.args.task.now.active.now c.args.task.now.marking.now (take c.args.next c.args.self.now.order.items) c.index-place.result.now
    c.loop-k.self.set c.loop-k.self.order.items c.loop-k.self.missing.items c.requires.packed
    (subst (λ to. IsClosing c.args.task.now.net.now c.args.task.now.packed.now c.args.task.now.active.now c.args.task.now.marking.now (size c.args.task.now.net.now)
    (spent_to c.args.task.now.packed.now (take c.args.next c.args.self.now.order.items) c.index-place.result.now to) c.loop-k.self.set c.loop-k.self.order.items c.loop-k.self.missing.items)
    (at_end ∙ c.first-k-end.ensures) c.loop-k.invariant.closing))

pub returns-clause-steps : goal.returns-clause-steps
returns-clause-steps g c =
    let here : c.index-place.result.now ≡ get_or c.args.self.now.order.items c.args.next 0 = c.index-place.ensures ∙ get_or_default_zero c.args.self.now.order.items c.args.next c.index-place.result.now c.requires.next in
    let at_end : c.loop-k.k ≡ c.first-k-end.result =
    let first = c.first-k.ensures in
    let last = c.first-k-end.ensures in
    let order = lower_le c.args.task.now.packed.now c.index-place.result.now in
    let up = c.loop-k.auto.k-end in
    let down = c.loop-k-test.false in
    omega arith in
    let taken = take_next c.args.self.now.order.items c.loop-k.self.order.items c.args.next c.requires.next c.loop-k.invariant.more in
    let same = left_end c.args.task.now.net.now c.args.task.now.packed.now (take c.args.next c.args.self.now.order.items) c.index-place.result.now c.requires.packed in
    let moved = ap (λ to. left c.args.task.now.packed.now (spent_to c.args.task.now.packed.now (take c.args.next c.args.self.now.order.items) c.index-place.result.now to)) (at_end ∙ c.first-k-end.ensures) in
    let before = c.loop-k.invariant.steps in
    rw (taken, ← here) (omega arith)
