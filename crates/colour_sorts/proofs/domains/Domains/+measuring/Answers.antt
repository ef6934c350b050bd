use Rattle.std.proofs.Common.{ap, arith}
use Rattle.colour_sorts.proofs.Products.{growing-end, growing-part}
use Rattle.colour_sorts.proofs.domains.Domains.+measuring.Goals as goal

pub facts-returns-in-Range-clause-facts : goal.facts-returns-in-Range-clause-facts
facts-returns-in-Range-clause-facts t c =
    rw c.in-Range.is (c.range_facts.ensures.facts c.args.self.now.constants)

pub product_of-loop-part-preserved : goal.product_of-loop-part-preserved
product_of-loop-part-preserved t c = record {
  capped = record {
    size = omega (arith, ap (λ f. f.size) c.with-facts.ensures);
    sorts = omega (arith, ap (λ f. f.sorts) c.with-facts.ensures);
    depth = omega (arith, ap (λ f. f.depth) c.with-facts.ensures);
  };
  deep = omega (arith, ap (λ f. f.depth) c.with-facts.ensures, c.loop-part.invariant.deep);
  growing = rw c.with-facts.ensures
      (growing-part c.args.self.now.constants c.args.parts.now c.loop-part.part-index c.part-item.result c.loop-part.facts c.facts.result c.loop-part-test.true c.part-item.is
      c.facts.ensures.facts c.loop-part.invariant.growing);
}

pub product_of-returns-clause-facts : goal.product_of-returns-clause-facts
product_of-returns-clause-facts t c =
    growing-end c.args.self.now.constants c.args.parts.now c.loop-part.part-index c.loop-part.facts c.loop-part-test.false
    c.loop-part.invariant.capped.size c.loop-part.invariant.capped.sorts c.loop-part.invariant.capped.depth c.loop-part.invariant.deep c.loop-part.invariant.growing
