use Rattle.unfolded_files.proofs.Names.{instance_ids}
use Rattle.unfolded_files.proofs.laws.instances_have_ids.Goals as goal

pub returns : goal.returns
returns c = instance_ids
