use Rattle.cert_names.proofs.Shown.{shown_holds_at_reached}
use Rattle.cert_names.proofs.laws.shown_holds_at_reached.Goals as goal

pub returns : goal.returns
returns c = shown_holds_at_reached
