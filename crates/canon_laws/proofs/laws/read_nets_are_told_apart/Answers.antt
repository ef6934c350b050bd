use Rattle.canon_laws.proofs.Read.{told_apart}
use Rattle.canon_laws.proofs.laws.read_nets_are_told_apart.Goals as goal

pub returns : goal.returns
returns c = told_apart
