use Rattle.guard_walks.proofs.Setting.{values_set}
use Rattle.guard_walks.proofs.walking.put.Goals as goal

pub returns-clause-values : goal.returns-clause-values
returns-clause-values c = values_set c.args.indices.now c.args.variables.now c.args.at c.args.value c.requires.within c.requires.declared
