use Rattle.std.proofs.Common.{◌≡◌, ◌∙◌, ap, sym, ◌+◌, List, ℕ, map, take, arith}
use Rattle.std.specs.Prelude.{sum_by}
use Rattle.cert_lines.proofs.Amounts.{one_more}
use Rattle.cert_lines.proofs.sums.are_few.Goals as goal

pub loop-item-preserved : goal.loop-item-preserved
loop-item-preserved g c =
    let amounts = map g.T.Valued.amount c.args.items.now in
    let f = λ (x : List ℕ × ℕ). x.1 in
    let step = one_more f g.T.Valued.amount c.args.items.now c.loop-item.item-index c.item-item.result c.loop-item-test.true c.item-item.is in
    let sum : c.loop-item.total + c.size-size.result ≡ sum_by f (take (c.loop-item.item-index + 1) amounts) =
    (ap (λ t. t + c.size-size.result) c.loop-item.invariant.0 ∙ ap (λ s. sum_by f (take c.loop-item.item-index amounts) + s) c.size-size.ensures ∙ sym step) in
    (sum, omega arith)
