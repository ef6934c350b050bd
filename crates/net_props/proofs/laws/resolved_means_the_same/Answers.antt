use Rattle.net_props.proofs.Truths.{resolved_means_the_same}
use Rattle.net_props.proofs.laws.resolved_means_the_same.Goals as goal

pub returns : goal.returns
returns c = resolved_means_the_same
