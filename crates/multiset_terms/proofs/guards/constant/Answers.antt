use Rattle.multiset_terms.proofs.GuardMakers.{constant-guard}
use Rattle.multiset_terms.proofs.guards.constant.Goals as goal

pub returns : goal.returns
returns c = λ ctx. constant-guard ctx c.args.value
