use Rattle.multiset_terms.proofs.GuardMakers.{imply-guard}
use Rattle.multiset_terms.proofs.guards.implied.Goals as goal

pub returns-in-Ok-implication : goal.returns-in-Ok-implication
returns-in-Ok-implication c = λ ctx g h known other.
    rw c.in-Ok-implication.ensures (imply-guard ctx g h c.args.first c.args.second c.in-Ok.nodes known other c.in-Ok.ensures)
