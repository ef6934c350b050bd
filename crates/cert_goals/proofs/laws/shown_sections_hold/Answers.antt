use Rattle.cert_goals.proofs.Shown.{shown_sections_hold}
use Rattle.cert_goals.proofs.laws.shown_sections_hold.Goals as goal

pub returns : goal.returns
returns c = shown_sections_hold
