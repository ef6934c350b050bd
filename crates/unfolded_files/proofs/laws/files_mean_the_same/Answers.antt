use Rattle.unfolded_files.proofs.Means.{means}
use Rattle.unfolded_files.proofs.laws.files_mean_the_same.Goals as goal

pub returns : goal.returns
returns c = means
