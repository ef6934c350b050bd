use Rattle.cert_laws.proofs.Reaching.{shown_holds_at_reached}
use Rattle.cert_laws.proofs.laws.shown_holds_at_reached.Goals as goal

pub returns : goal.returns
returns c = shown_holds_at_reached
