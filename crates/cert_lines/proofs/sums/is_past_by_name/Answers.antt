use Rattle.std.proofs.Common.{◌≡◌, ◌∙◌, ap, sym, subst, ◌<◌, ◌≤◌, ◌+◌, ◌^◌, map, take, arith}
use Rattle.std.proofs.lemmas.List.{length-map, take_all}
use Rattle.cert_lines.specs.Sums.{share, sum_on}
use Rattle.cert_lines.proofs.Amounts.{none_past, one_more, one_past}
use Rattle.cert_lines.proofs.sums.is_past_by_name.Goals as goal

pub returns : goal.returns
returns g c =
    let amounts = map g.T.Named.named_amount c.args.items.now in
    let whole : take c.loop-item.item-index amounts ≡ amounts = take_all _ amounts (omega (arith, length-map c.args.items.now g.T.Named.named_amount, c.loop-item-test.false)) in
    sym (none_past amounts (λ q. let at = c.loop-item.invariant q in subst (λ xs. sum_on q xs < 2 ^ 63) whole (subst (λ n. n < 2 ^ 63) at.0 at.1)))

pub loop-item-preserved : goal.loop-item-preserved
loop-item-preserved g c = λ q.
    let before = c.loop-item.invariant q in
    let after = rw c.if-not-branch.false at c.in_ok-add_to.ensures in
    let step = one_more (share q) g.T.Named.named_amount c.args.items.now c.loop-item.item-index c.item-item.result c.loop-item-test.true c.item-item.is in (
      (after q).0 ∙ ap (λ s. s + share q (c.amount-pair.result.0.now, c.amount-pair.result.1)) before.0
          ∙ ap (λ a. sum_on q (take c.loop-item.item-index (map g.T.Named.named_amount c.args.items.now)) + share q a) c.amount-pair.ensures
          ∙ sym step,
      (after q).1,
    )

pub returns-then-not-branch : goal.returns-then-not-branch
returns-then-not-branch g c =
    let name = c.amount-pair.result.0.now in
    let before = c.loop-item.invariant name in
    let amounts = take c.loop-item.item-index (map g.T.Named.named_amount c.args.items.now) in
    let past : 2 ^ 63 ≤ sum_on name amounts + c.amount-pair.result.1 =
    subst (λ s. 2 ^ 63 ≤ s + c.amount-pair.result.1) before.0 (rw c.if-not-branch.true at c.in_ok-add_to.ensures) in
    sym (one_past g.T.Named.named_amount c.args.items.now c.loop-item.item-index c.item-item.result c.loop-item-test.true c.item-item.is (subst (λ a. 2 ^ 63 ≤ sum_on a.0 amounts + a.1) c.amount-pair.ensures past))

pub add_to-requires : goal.add_to-requires
add_to-requires g c = λ q. (c.loop-item.invariant q).1
