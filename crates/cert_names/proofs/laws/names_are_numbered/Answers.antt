use Rattle.cert_names.proofs.Names.{names_are_numbered}
use Rattle.cert_names.proofs.laws.names_are_numbered.Goals as goal

pub returns : goal.returns
returns c = names_are_numbered
