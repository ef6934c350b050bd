use Rattle.cert_laws.proofs.Firing.{firing_is_reduced}
use Rattle.cert_laws.proofs.Fates.{fates_tell_firing}
use Rattle.cert_laws.proofs.laws.firing_is_reduced.Goals as goal

pub returns : goal.returns
returns c = record {
  places = firing_is_reduced;
  fates = fates_tell_firing;
}
