use Rattle.unfolded_files.proofs.Arcs.{nodes}
use Rattle.unfolded_files.proofs.laws.files_have_ids.Goals as goal

pub returns : goal.returns
returns c = nodes
