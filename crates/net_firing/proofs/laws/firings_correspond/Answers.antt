use Rattle.net_firing.proofs.Firings.{firings}
use Rattle.net_firing.proofs.laws.firings_correspond.Goals as goal

pub returns : goal.returns
returns c = firings
