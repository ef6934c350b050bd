use Rattle.net_firing.proofs.Firings.{numbered_modes}
use Rattle.net_firing.proofs.laws.modes_are_numbered.Goals as goal

pub returns : goal.returns
returns c = numbered_modes
