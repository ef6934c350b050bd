use Rattle.multiset_terms.proofs.GuardMakers.{not-guard}
use Rattle.multiset_terms.proofs.guards.not_that.Goals as goal

pub returns-in-Ok-new : goal.returns-in-Ok-new
returns-in-Ok-new c = λ ctx g known. rw c.in-Ok-new.ensures (not-guard ctx g c.args.part c.in-Ok.nodes known c.in-Ok.ensures.nodes)
