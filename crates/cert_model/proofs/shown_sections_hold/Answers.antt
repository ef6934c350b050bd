use Rattle.cert_model.proofs.shown_sections_hold.Goals as goal
use Rattle.cert_model.proofs.Judgements.{shown_sections_hold, shown_is_shown}

pub returns : goal.returns
returns c = (shown_sections_hold, shown_is_shown)
