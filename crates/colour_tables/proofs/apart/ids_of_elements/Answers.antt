use Rattle.std.proofs.Common.{◌++◌, ap, ◌∙◌, map, take}
use Rattle.net_model.specs.Ids.{element_ids, names_in}
use Rattle.colour_tables.proofs.NewNames.{more-names}
use Rattle.colour_tables.proofs.apart.ids_of_elements.Goals as goal

pub loop-partition-preserved : goal.loop-partition-preserved
loop-partition-preserved c =
    let ps = c.args.partitions.now in
    let i = c.loop-partition.partition-index in
    c.in_ok-append_copies.ensures
    ∙ ap (λ xs. xs ++ c.as_slice-in-loop-partition.result.now) c.loop-partition.invariant
    ∙ ap (λ xs. names_in (map element_ids (take i ps)) ++ xs) (c.as_slice-in-loop-partition.ensures.value ∙ c.in_ok-ids.ensures ∙ ap (λ es. map (λ element. element.id) es) c.as_slice.ensures)
    ∙ more-names element_ids ps i c.partition-item.result c.loop-partition-test.true c.partition-item.is
