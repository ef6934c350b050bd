use Rattle.colour_sorts.proofs.Divided.{divided}
use Rattle.colour_sorts.proofs.laws.divided_sorts_have_blocks.Goals as goal

pub returns : goal.returns
returns c = divided
