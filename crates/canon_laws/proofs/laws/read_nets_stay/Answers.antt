use Rattle.canon_laws.proofs.Read.{stays}
use Rattle.canon_laws.proofs.laws.read_nets_stay.Goals as goal

pub returns : goal.returns
returns c = stays
