use Rattle.std.proofs.Common.{[], ap, sym, ◌∙◌, arith, map}
use Rattle.std.proofs.lemmas.List.{get_or-map, length-map}
use Rattle.colour_sorts.proofs.Grouped.{add-next}
use Rattle.net_typing.proofs.scope.ids_of.Goals as goal

pub loop-variable-preserved : goal.loop-variable-preserved
loop-variable-preserved c =
    let vs = c.args.variables.now in
    let item = c.variable-item.result in
    add-next [] (map (λ v. v.id) vs) c.loop-variable.variable-index item.id c.in_ok-add.field-0 c.loop-variable.ids c.add.new.self c.requires.distinct
    (omega (arith, c.loop-variable-test.true, length-map vs (λ v. v.id)))
    (ap (λ v. v.id) c.variable-item.is ∙ sym (get_or-map (λ v. v.id) vs c.loop-variable.variable-index item item.id c.loop-variable-test.true))
    c.loop-variable.invariant (rw (sym c.in_ok-copy.ensures) c.in_ok-add.ensures.added)
