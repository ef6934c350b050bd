use Rattle.multiset_terms.proofs.Makers.{block-part, totals-one, verdict-block}
use Rattle.multiset_terms.proofs.making.block_of.Goals as goal

pub returns-in-Err-block_kind : goal.returns-in-Err-block_kind
returns-in-Err-block_kind c = λ ctx marking id t here divided known.
    verdict-block ctx marking id t c.args.part c.args.partition c.args.sort.now c.in-Err-block_kind.rule here divided known c.in-Err-block_kind.ensures

pub returns : goal.returns
returns c = λ ctx marking id t here divided known.
    rw (c.heavy_node.ensures, totals-one t c.args.part c.new.result c.in-Ok.totals c.new.ensures c.in-Ok.ensures)
    (block-part ctx marking id t c.args.part c.args.partition c.args.sort.now c.in-Ok-block_kind.kind here divided known c.in-Ok-block_kind.ensures)
