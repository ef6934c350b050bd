use Rattle.std.proofs.Common.{◌∙◌}
use Rattle.multiset_terms.proofs.Makers.{stands-for}
use Rattle.multiset_terms.proofs.compiling.finished.Goals as goal

pub returns-clause-compiled : goal.returns-clause-compiled
returns-clause-compiled c = λ ctx marking t known. (
  (c.args.part.kind, known.counted.typed),
  known.counted.heavy_node ∙ c.in_default.is,
  stands-for ctx marking t c.args.part c.into_sort.result c.is_block-block.result known c.in_default.is c.into_sort.ensures c.is_block-block.ensures,
)
