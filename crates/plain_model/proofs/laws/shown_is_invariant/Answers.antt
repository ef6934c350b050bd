use Rattle.plain_model.proofs.laws.shown_is_invariant.Goals as goal
use Rattle.plain_model.proofs.Sound.{shown_is_invariant}

pub returns : goal.returns
returns c = shown_is_invariant
