use Rattle.std.proofs.Common.{refl, take}
use Rattle.doc_tree.specs.declared.places.Place.TheVariants as place
use Rattle.doc_tree.proofs.TakenRuns.{text_taken, outside_taken, many}
use Rattle.doc_tree.proofs.runs.take_text.Goals as goal

pub returns-then-is_empty-clause-read : goal.returns-then-is_empty-clause-read
returns-then-is_empty-clause-read c =
    outside_taken place.Between c.args.opens.now c.is_empty.result c.run.result c.args.bytes.now c.is_empty.ensures c.if-is_empty.true refl c.run.ensures.within c.run.ensures.all

pub returns-clause-read : goal.returns-clause-read
returns-clause-read c r count b h =
    let bytes = c.args.bytes.now in
    let n = c.run-count.result in
    many place.Between c.add_text.new.self r count n b bytes c.run-count.ensures.within
    (text_taken place.Between c.args.opens.now c.add_text.new.self (take n bytes) c.is_empty.result c.in_ok-add_text.field-0 c.is_empty.ensures c.if-is_empty.false
    c.in_ok-add_text.ensures refl c.run-count.ensures.all r count b h)
