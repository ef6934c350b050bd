use Rattle.colour_sorts.proofs.Sizes.{unbroken-size}
use Rattle.colour_sorts.proofs.laws.unbroken_sorts_have_colours.Goals as goal

pub returns : goal.returns
returns c = unbroken-size
