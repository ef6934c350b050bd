use Rattle.canon_laws.proofs.Spelled.{text_back}
use Rattle.canon_laws.proofs.laws.canonical_texts_give_the_net.Goals as goal

pub returns : goal.returns
returns c = text_back
