use Rattle.multiset_terms.proofs.GuardMakers.{or-guard}
use Rattle.multiset_terms.proofs.guards.some_of.Goals as goal

pub returns : goal.returns
returns c = λ ctx gs known. or-guard ctx gs c.args.parts known
