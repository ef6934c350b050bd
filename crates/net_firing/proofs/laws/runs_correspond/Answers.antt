use Rattle.net_firing.proofs.Firings.{runs}
use Rattle.net_firing.proofs.laws.runs_correspond.Goals as goal

pub returns : goal.returns
returns c = runs
