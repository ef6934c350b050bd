use Rattle.net_firing.proofs.Maps.{all_counts}
use Rattle.net_firing.proofs.laws.counts_are_markings.Goals as goal

pub returns : goal.returns
returns c = all_counts
