use Rattle.multiset_terms.proofs.Makers.{before-part, over-before, totals-one, verdict-over}
use Rattle.multiset_terms.proofs.making.before.Goals as goal

pub returns-in-Err-step_kind : goal.returns-in-Err-step_kind
returns-in-Err-step_kind c = λ ctx marking t distinct known.
    verdict-over ctx marking _ t c.args.part _ _ _ c.in-Err-step_kind.rule (over-before ctx marking t) known c.in-Err-step_kind.ensures

pub returns : goal.returns
returns c = λ ctx marking t distinct known.
    rw (c.in-Ok-new.ensures, c.heavy_node.ensures, totals-one t c.args.part c.new.result c.in-Ok.totals c.new.ensures c.in-Ok.ensures)
    (before-part ctx marking t c.args.part c.in-Ok-step_kind.kind distinct known c.in-Ok-step_kind.ensures)
