use Rattle.std.proofs.Common.{◌<◌, length, arith}
use Rattle.colour_sorts.specs.declared.facts.Mark.TheVariants.{Done, Fresh}
use Rattle.colour_sorts.proofs.Broken.{circle-here, if-none}
use Rattle.colour_sorts.proofs.PlacesIn.{get-at}
use Rattle.colour_sorts.proofs.breaking.rule_of.Goals as goal

pub rule_of_circle-requires-clause-circle : goal.rule_of_circle-requires-clause-circle
rule_of_circle-requires-clause-circle c = circle-here c.args.sorts.now c.args.marks.now c.args.at c.requires.here c.in-Fresh.is

pub returns-in-Done-clause-done : goal.returns-in-Done-clause-done
returns-in-Done-clause-done c = if-none c.rule_of_done.result
    (c.in-Done.field-0, get-at c.args.marks.now c.args.at (Done c.in-Done.field-0) Fresh (omega (arith, c.requires.within, c.requires.marked.as_long)) c.in-Done.is)
