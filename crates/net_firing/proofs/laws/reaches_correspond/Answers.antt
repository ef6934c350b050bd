use Rattle.net_firing.proofs.Firings.{reaches}
use Rattle.net_firing.proofs.laws.reaches_correspond.Goals as goal

pub returns : goal.returns
returns c = reaches
