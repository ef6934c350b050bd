use Rattle.canon_laws.proofs.Spelled.{text_stays}
use Rattle.canon_laws.proofs.laws.canonical_texts_stay.Goals as goal

pub returns : goal.returns
returns c = text_stays
