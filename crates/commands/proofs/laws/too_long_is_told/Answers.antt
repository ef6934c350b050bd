use Rattle.commands.proofs.TooLong.{told}
use Rattle.commands.proofs.laws.too_long_is_told.Goals as goal

pub returns : goal.returns
returns c = told
