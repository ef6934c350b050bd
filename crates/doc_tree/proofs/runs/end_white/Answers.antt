use Rattle.doc_tree.specs.declared.places.Place.TheVariants as place
use Rattle.doc_tree.proofs.TakenRuns.{end_white_taken, no_more}
use Rattle.doc_tree.proofs.runs.end_white.Goals as goal

pub returns-then-is_empty-clause-read : goal.returns-then-is_empty-clause-read
returns-then-is_empty-clause-read c r count b h = no_more place.CloseWhite c.args.opens.now r count b h

pub returns-clause-read : goal.returns-clause-read
returns-clause-read c = end_white_taken c.args.opens.now c.is_empty.result c.run.result c.args.bytes.now c.is_empty.ensures c.if-is_empty.false c.run.ensures.within c.run.ensures.all
