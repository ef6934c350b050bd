use Rattle.std.proofs.Common.{refl}
use Rattle.plain_model.proofs.laws.ring_slack_is_right.Goals as goal

pub returns : goal.returns
returns c = record { on_places = refl; constant = refl }
