use Rattle.commands.proofs.Shown.{shown}
use Rattle.commands.proofs.laws.holds_shows_an_invariant.Goals as goal

pub returns : goal.returns
returns c = shown c.holds_is_invariant.ensures
