use Rattle.std.proofs.Common.{◌+◌, drop, map, slice_index, ap, ◌∙◌, pos}
use Rattle.linear_cert.specs.Fitting.{plus_all}
use Rattle.linear_cert.specs.Checks.{weighted}
use Rattle.linear_cert.proofs.Adding.{plus_all-more}
use Rattle.linear_cert.proofs.tallies.plus_weighted.Goals as goal

pub loop-term-preserved : goal.loop-term-preserved
loop-term-preserved c =
    let f = weighted (λ p. slice_index c.args.counts.now p) in
    ap (λ s. plus_all s (map f (drop (c.loop-term.term-index + 1) c.args.terms.now))) c.plus_product-sum.ensures
    ∙ plus_all-more f c.loop-term.sum c.args.terms.now c.loop-term.term-index (record { place = 0; value = pos 0 }) c.loop-term-test.true
    ∙ c.loop-term.invariant
