use Rattle.std.proofs.Common.{◌≡◌, ap, refl, arith}
use Rattle.doc_tree.specs.declared.places.Place.TheVariants as place
use Rattle.doc_tree.proofs.TakenRuns.{moved, no_more, close_run}
use Rattle.doc_tree.proofs.runs.take_ended_name.Goals as goal

pub returns-then-read-gt0-clause-read : goal.returns-then-read-gt0-clause-read
returns-then-read-gt0-clause-read c r count b h = no_more (place.Close c.args.read.now) c.args.opens.now r count b h

pub returns-in-None-clause-read : goal.returns-in-None-clause-read
returns-in-None-clause-read c r count b h = no_more (place.Close c.args.read.now) c.args.opens.now r count b h

pub returns-in-Some-clause-read : goal.returns-in-Some-clause-read
returns-in-Some-clause-read c r count b h =
    let os = c.args.opens.now in
    let first : c.args.read.now ≡ 0 = omega (arith, c.if-read-gt0.false) in
    close_run c.in-Some.count c.args.bytes.now os r count b c.in-Some.ensures.name (moved (place.Close c.args.read.now) (place.Close 0) os os r count b (ap (λ k. place.Close k) first) refl h)
