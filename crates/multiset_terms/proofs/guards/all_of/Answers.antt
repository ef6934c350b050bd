use Rattle.multiset_terms.proofs.GuardMakers.{and-guard}
use Rattle.multiset_terms.proofs.guards.all_of.Goals as goal

pub returns : goal.returns
returns c = λ ctx gs known. and-guard ctx gs c.args.parts known
