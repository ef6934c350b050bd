use Rattle.std.proofs.Common.{refl}
use Rattle.multiset_terms.proofs.GuardDescent.{no-guards}
use Rattle.multiset_terms.proofs.guards.GuardParts.new.Goals as goal

pub returns : goal.returns
returns c = λ ctx. no-guards ctx _ c.new.ensures refl
