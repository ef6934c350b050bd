use Rattle.canon_laws.proofs.Read.{spelled}
use Rattle.canon_laws.proofs.laws.read_nets_are_spelled.Goals as goal

pub returns : goal.returns
returns c = spelled
