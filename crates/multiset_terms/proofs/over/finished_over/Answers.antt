use Rattle.std.proofs.Common.{◌∙◌}
use Rattle.std.proofs.lemmas.Result.{IfOk-weaker}
use Rattle.multiset_terms.proofs.StandingOver.{compiled-over, is-over}
use Rattle.multiset_terms.proofs.over.finished_over.Goals as goal

pub returns-clause-compiled : goal.returns-clause-compiled
returns-clause-compiled c = λ ctx marking t known.
    compiled-over ctx marking c.args.sort.now t c.args.part.kind c.finished.result known.counted.typed c.in_default.ensures (c.finished.ensures.compiled ctx marking t known)

pub returns-clause-is : goal.returns-clause-is
returns-clause-is c =
    let over = is-over c.args.sort.now c.args.part.kind c.in_default.ensures in
    IfOk-weaker c.finished.result _ _ (λ term told. (told.0 ∙ over.0, told.1 ∙ over.1)) c.finished.ensures.is
