use Rattle.std.proofs.Common.{sym, ◌∙◌}
use Rattle.net_model.specs.Ids.{constants_of}
use Rattle.colour_sorts.specs.Naming.{sort_of, term_at}
use Rattle.colour_sorts.proofs.Broken.{done-facts, rule-known, rule-unknown}
use Rattle.colour_sorts.proofs.breaking.rule_of_done.Goals as goal

pub returns-then-facts : goal.returns-then-facts
returns-then-facts c =
    let sorts = c.args.sorts.now in
    let done = done-facts sorts c.args.marks.now c.args.at c.in-Done.facts c.requires.distinct c.requires.marked c.requires.within c.in-Done.is in
    rule-known sorts c.args.at c.in-Done.facts c.broken.result done c.if-facts.true (c.broken.ensures (constants_of sorts) (sort_of sorts c.args.at (term_at sorts c.args.at)) done.tests)

pub returns-else-facts : goal.returns-else-facts
returns-else-facts c =
    let sorts = c.args.sorts.now in
    let done = done-facts sorts c.args.marks.now c.args.at c.in-Done.facts c.requires.distinct c.requires.marked c.requires.within c.in-Done.is in
    rule-unknown sorts c.args.at (sym done.known ∙ c.if-facts.false)
