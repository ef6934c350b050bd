use Rattle.canon_laws.proofs.Spelled.{texts_tell}
use Rattle.canon_laws.proofs.laws.canonical_texts_tell_nets_apart.Goals as goal

pub returns : goal.returns
returns c = texts_tell
