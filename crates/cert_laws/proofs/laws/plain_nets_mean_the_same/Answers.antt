use Rattle.cert_laws.proofs.Plain.{plain_nets_mean_the_same}
use Rattle.cert_laws.proofs.laws.plain_nets_mean_the_same.Goals as goal

pub returns : goal.returns
returns c = plain_nets_mean_the_same
