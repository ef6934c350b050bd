use Rattle.multiset_terms.proofs.Makers.{difference-part, totals-two, verdict-difference}
use Rattle.multiset_terms.proofs.making.difference.Goals as goal

pub returns-in-Err-difference_kind : goal.returns-in-Err-difference_kind
returns-in-Err-difference_kind c = λ ctx marking t u first second.
    verdict-difference ctx marking t c.args.whole u c.args.part c.in-Err-difference_kind.rule first second c.in-Err-difference_kind.ensures

pub returns : goal.returns
returns c = λ ctx marking t u first second.
    rw (c.in-Ok-new.ensures, c.in-Ok-new-2.ensures, c.heavy_node.ensures, totals-two t c.args.whole u c.args.part c.new.result c.in-Ok.totals c.in-Ok-with.totals c.new.ensures c.in-Ok.ensures c.in-Ok-with.ensures)
    (difference-part ctx marking t c.args.whole u c.args.part c.in-Ok-difference_kind.kind first second c.in-Ok-difference_kind.ensures)
