use Rattle.std.proofs.Common.{arith}
use Rattle.name_tables.proofs.Rising.{place_of_row}
use Rattle.name_tables.proofs.tables.Table.text.Goals as goal

pub returns-clause-distinct : goal.returns-clause-distinct
returns-clause-distinct g c =
    rw (← c.self.view_is) (place_of_row c.self.inside.words.now c.args.tag _ c.self.invariant.2 (omega (arith, c.requires, c.self.invariant.0)))
