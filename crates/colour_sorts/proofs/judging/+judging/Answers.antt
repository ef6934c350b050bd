use Rattle.std.proofs.Common.{ap, arith}
use Rattle.colour_sorts.proofs.FactsOf.{facts-Dot}
use Rattle.colour_sorts.proofs.Judged.{judged-Dot, judged-Range, judged-Listed, judged-Cyclic}
use Rattle.colour_sorts.proofs.Products.{going-part, going-end, waiting-part}
use Rattle.colour_sorts.proofs.judging.+judging.Goals as goal

pub facts_of-returns-in-Dot-clause-judged : goal.facts_of-returns-in-Dot-clause-judged
facts_of-returns-in-Dot-clause-judged t c =
    let leaf = c.leaf.ensures in
    rw c.in-Dot.is
    (judged-Dot c.args.ids.now c.args.marks.now c.args.own c.leaf.result (ap (λ f. f.is_known) leaf) (λ constants.
    facts-Dot constants c.leaf.result (ap (λ f. f.is_upside_down) leaf) (ap (λ f. f.lacks_constants) leaf) (ap (λ f. f.lacks_components) leaf) (ap (λ f. f.size) leaf) (ap (λ f. f.sorts) leaf) (ap (λ f. f.depth) leaf)))

pub facts_of-returns-in-Range-clause-judged : goal.facts_of-returns-in-Range-clause-judged
facts_of-returns-in-Range-clause-judged t c =
    rw c.in-Range.is
    (judged-Range c.args.ids.now c.args.marks.now c.args.own c.in-Range.span c.range_facts.result c.range_facts.ensures.known c.range_facts.ensures.facts)

pub facts_of-returns-in-Listed-clause-judged : goal.facts_of-returns-in-Listed-clause-judged
facts_of-returns-in-Listed-clause-judged t c =
    rw c.in-Listed.is
    (judged-Listed c.args.ids.now c.args.marks.now c.args.own c.in-Listed.field-0 c.listed_facts.result c.listed_facts.ensures.known c.listed_facts.ensures.listed)

pub facts_of-returns-in-Cyclic-clause-judged : goal.facts_of-returns-in-Cyclic-clause-judged
facts_of-returns-in-Cyclic-clause-judged t c =
    rw c.in-Cyclic.is
    (judged-Cyclic c.args.ids.now c.args.marks.now c.args.own c.in-Cyclic.field-0 c.listed_facts-in-Cyclic.result c.listed_facts-in-Cyclic.ensures.known c.listed_facts-in-Cyclic.ensures.cyclic)

pub product_facts-returns-in-Err-clause-waits : goal.product_facts-returns-in-Err-clause-waits
product_facts-returns-in-Err-clause-waits t c =
    waiting-part c.args.ids.now c.args.marks.now c.args.parts.now c.loop-part.part-index c.part-item.result c.in-Err.at c.loop-part-test.true c.part-item.is c.in-Err.ensures.waits

pub product_facts-loop-part-preserved : goal.product_facts-loop-part-preserved
product_facts-loop-part-preserved t c = record {
  capped = record {
    size = omega (arith, ap (λ f. f.size) c.with-facts.ensures);
    sorts = omega (arith, ap (λ f. f.sorts) c.with-facts.ensures);
    depth = omega (arith, ap (λ f. f.depth) c.with-facts.ensures);
  };
  deep = omega (arith, ap (λ f. f.depth) c.with-facts.ensures, c.loop-part.invariant.deep);
  going = λ sorts steps at e settled some is.
      rw c.with-facts.ensures
      (going-part sorts steps at c.args.parts.now c.loop-part.part-index c.part-item.result c.loop-part.facts c.in-Ok.more c.loop-part-test.true c.part-item.is
      (c.in-Ok.ensures.judged sorts steps at e settled some is) (c.loop-part.invariant.going sorts steps at e settled some is));
}

pub product_facts-returns-clause-judged : goal.product_facts-returns-clause-judged
product_facts-returns-clause-judged t c = λ sorts steps at e settled some is.
    going-end sorts steps at c.args.parts.now c.loop-part.part-index c.loop-part.facts c.loop-part-test.false
    c.loop-part.invariant.capped.size c.loop-part.invariant.capped.sorts c.loop-part.invariant.capped.depth c.loop-part.invariant.deep (c.loop-part.invariant.going sorts steps at e settled some is)
