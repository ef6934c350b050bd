use Rattle.net_model.proofs.Layers.{fold-NumberOf, fold-Scalar}
use Rattle.multiset_terms.specs.Values.{meaning_part}
use Rattle.multiset_terms.proofs.Makers.{multiple-part, over-number, over-scalar, totals-one, verdict-over}
use Rattle.multiset_terms.proofs.making.multiple.Goals as goal

pub returns-in-Err-multiple_kind-clause-scalar : goal.returns-in-Err-multiple_kind-clause-scalar
returns-in-Err-multiple_kind-clause-scalar c = λ ctx marking t known.
    verdict-over ctx marking _ t c.args.part _ _ _ c.in-Err-multiple_kind.rule (over-scalar ctx marking c.args.number t) known c.in-Err-multiple_kind.ensures

pub returns-in-Err-multiple_kind-clause-number_of : goal.returns-in-Err-multiple_kind-clause-number_of
returns-in-Err-multiple_kind-clause-number_of c = λ ctx marking t known.
    verdict-over ctx marking _ t c.args.part _ _ _ c.in-Err-multiple_kind.rule (over-number ctx marking c.args.number t) known c.in-Err-multiple_kind.ensures

pub returns-clause-scalar : goal.returns-clause-scalar
returns-clause-scalar c = λ ctx marking t known.
    rw (c.in-Ok-new.ensures, c.heavy_node.ensures, c.times_weight-gross.ensures, totals-one t c.args.part c.new.result c.in-Ok.totals c.new.ensures c.in-Ok.ensures)
    (multiple-part ctx marking _ t c.args.number c.args.part c.in-Ok-multiple_kind.kind (over-scalar ctx marking c.args.number t) (λ b. fold-Scalar (meaning_part ctx b) c.args.number t) known c.in-Ok-multiple_kind.ensures)

pub returns-clause-number_of : goal.returns-clause-number_of
returns-clause-number_of c = λ ctx marking t known.
    rw (c.in-Ok-new.ensures, c.heavy_node.ensures, c.times_weight-gross.ensures, totals-one t c.args.part c.new.result c.in-Ok.totals c.new.ensures c.in-Ok.ensures)
    (multiple-part ctx marking _ t c.args.number c.args.part c.in-Ok-multiple_kind.kind (over-number ctx marking c.args.number t) (λ b. fold-NumberOf (meaning_part ctx b) c.args.number t) known c.in-Ok-multiple_kind.ensures)
