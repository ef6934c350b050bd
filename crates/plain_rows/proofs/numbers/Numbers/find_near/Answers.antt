use Rattle.std.proofs.Common.{sym}
use Rattle.plain_rows.proofs.Distinct.{numbered_at}
use Rattle.plain_rows.proofs.numbers.Numbers.find_near.Goals as goal

pub returns-then-is_at : goal.returns-then-is_at
returns-then-is_at c = sym (numbered_at c.args.self.now c.args.name.now c.args.guess c.requires c.if-is_at.ensures)
