use Rattle.std.proofs.Common.{sym, ◌∙◌}
use Rattle.multiset_terms.proofs.Asked.{partition-here, partition-sort, partition-within, unknown-partition}
use Rattle.multiset_terms.proofs.making.block.Goals as goal

pub partition_sort-requires : goal.partition_sort-requires
partition_sort-requires c = partition-within c.args.domains.now.partition_ids c.args.id.now c.in-Some.at (sym c.in-Some.ensures)

pub returns-in-Some : goal.returns-in-Some
returns-in-Some c = λ ctx v marking t scope known.
    c.block_of.ensures ctx marking c.args.id.now t (sym (partition-here ctx c.args.domains.now v c.args.id.now scope) ∙ sym c.in-Some.ensures)
    (c.partition_sort.ensures ∙ partition-sort ctx c.args.domains.now v c.in-Some.at scope) known

pub returns-in-None : goal.returns-in-None
returns-in-None c = λ ctx v marking t scope known.
    unknown-partition ctx marking c.args.id.now t c.args.part (sym (partition-here ctx c.args.domains.now v c.args.id.now scope) ∙ sym c.in-None.ensures) known
