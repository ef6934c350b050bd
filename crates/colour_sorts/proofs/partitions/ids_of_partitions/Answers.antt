use Rattle.std.proofs.Common.{[], ap, sym, ◌∙◌, arith, map}
use Rattle.std.proofs.lemmas.List.{get_or-map, length-map}
use Rattle.colour_sorts.proofs.Grouped.{add-next}
use Rattle.colour_sorts.proofs.partitions.ids_of_partitions.Goals as goal

pub loop-partition-preserved : goal.loop-partition-preserved
loop-partition-preserved c =
    let ps = c.args.partitions.now in
    let item = c.partition-item.result in
    add-next [] (map (λ p. p.id) ps) c.loop-partition.partition-index item.id c.in_ok-add.field-0 c.loop-partition.ids c.add.new.self c.requires.distinct
    (omega (arith, c.loop-partition-test.true, length-map ps (λ p. p.id)))
    (ap (λ p. p.id) c.partition-item.is ∙ sym (get_or-map (λ p. p.id) ps c.loop-partition.partition-index item item.id c.loop-partition-test.true))
    c.loop-partition.invariant (rw (sym c.in_ok-copy.ensures) c.in_ok-add.ensures.added)
