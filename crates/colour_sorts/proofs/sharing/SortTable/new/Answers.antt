use Rattle.std.proofs.Common.{◌∙◌}
use Rattle.colour_sorts.proofs.Shared.{no-sorts}
use Rattle.colour_sorts.proofs.sharing.SortTable.new.Goals as goal

pub returns : goal.returns
returns c = rw (c.new.ensures, c.from_vec.ensures, c.in_ok-numbers.ensures) (no-sorts c.args.count)
