use Rattle.std.proofs.Common.{[], ap, sym, ◌∙◌, arith}
use Rattle.std.proofs.lemmas.List.{get_or-map, length-map}
use Rattle.net_model.specs.Ids.{ids_of}
use Rattle.colour_sorts.proofs.Grouped.{add-next}
use Rattle.colour_sorts.proofs.building.ids_of_sorts.Goals as goal

pub loop-sort-preserved : goal.loop-sort-preserved
loop-sort-preserved c =
    let sorts = c.args.sorts.now in
    let item = c.sort-item.result in
    add-next [] (ids_of sorts) c.loop-sort.sort-index item.id c.in_ok-add.field-0 c.loop-sort.ids c.add.new.self c.requires.distinct
    (omega (arith, c.loop-sort-test.true, length-map sorts (λ s. s.id)))
    (ap (λ s. s.id) c.sort-item.is ∙ sym (get_or-map (λ s. s.id) sorts c.loop-sort.sort-index item item.id c.loop-sort-test.true))
    c.loop-sort.invariant (rw (sym c.in_ok-copy.ensures) c.in_ok-add.ensures.added)
