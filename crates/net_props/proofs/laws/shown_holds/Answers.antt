use Rattle.net_props.proofs.Truths.{shown_holds}
use Rattle.net_props.proofs.laws.shown_holds.Goals as goal

pub returns : goal.returns
returns c = shown_holds
