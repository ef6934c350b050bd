use Rattle.cert_goals.proofs.Shown.{shown_holds}
use Rattle.cert_goals.proofs.laws.shown_holds.Goals as goal

pub returns : goal.returns
returns c = shown_holds
