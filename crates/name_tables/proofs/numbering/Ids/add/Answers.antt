use Rattle.name_tables.proofs.Places.{name_added-new, name_added-old}
use Rattle.name_tables.proofs.numbering.Ids.add.Goals as goal

pub returns-then-is_new-clause-added : goal.returns-then-is_new-clause-added
returns-then-is_new-clause-added c =
    let known = c.in_ok-at.ensures in
    rw (← c.self.view_is)
    (name_added-new c.self.inside.set.keys c.args.name c.in_ok-at.at c.in_ok-at.is_new c.insert_full.new.self.keys known.added known.index known.keys c.if-is_new.true)

pub returns-clause-added : goal.returns-clause-added
returns-clause-added c =
    let known = c.in_ok-at.ensures in
    rw (← c.self.view_is)
    (name_added-old c.self.inside.set.keys c.args.name c.in_ok-at.at c.in_ok-at.is_new c.insert_full.new.self.keys known.added known.index known.keys c.if-is_new.false)
