use Rattle.cert_names.proofs.Trees.{trees_are_walked}
use Rattle.cert_names.proofs.laws.trees_are_walked.Goals as goal

pub returns : goal.returns
returns c = trees_are_walked
