use Rattle.std.proofs.Common.{sym}
use Rattle.name_tables.proofs.Rising.{row_held, place_held, no_place, no_row}
use Rattle.name_tables.proofs.tables.Table.find.Goals as goal

pub returns-in-Ok-clause-place : goal.returns-in-Ok-clause-place
returns-in-Ok-clause-place g c =
    rw (← c.self.view_is) (sym (place_held c.self.inside.words.now c.in-Ok.tag c.args.name.now c.self.invariant.2 c.in-Ok.ensures.bound c.in-Ok.ensures.ok))

pub returns-in-Ok-clause-found : goal.returns-in-Ok-clause-found
returns-in-Ok-clause-found g c =
    rw (← c.self.view_is) (row_held c.self.inside.words.now c.in-Ok.tag c.args.name.now c.in-Ok.ensures.bound c.in-Ok.ensures.ok)

pub returns-in-Err-clause-place : goal.returns-in-Err-clause-place
returns-in-Err-clause-place g c =
    rw (← c.self.view_is) (sym (no_place c.self.inside.words.now c.args.name.now c.in-Err.field-0 c.self.invariant.2 c.in-Err.ensures.position))

pub returns-in-Err-clause-none : goal.returns-in-Err-clause-none
returns-in-Err-clause-none g c =
    rw (← c.self.view_is) (no_row c.self.inside.words.now c.args.name.now c.in-Err.field-0 c.self.invariant.2 c.in-Err.ensures.position)
