use Rattle.std.proofs.Common.{◌<◌, ◌++◌, ◌∷◌, [], ap, sym, ◌∙◌, arith, length, take}
use Rattle.std.proofs.lemmas.List.{get_or-map, length-map, take_more}
use Rattle.net_model.specs.Ids.{constants_in, constants_of}
use Rattle.colour_sorts.proofs.Grouped.{distinct-next, few-next}
use Rattle.colour_sorts.proofs.building.constants_of_sorts.Goals as goal

pub with-requires-clause-distinct : goal.with-requires-clause-distinct
with-requires-clause-distinct c =
    let sorts = c.args.sorts.now in
    let item = c.sort-item.result in
    let g = constants_in item.sort in
    let is = ap (λ s. constants_in s.sort) c.sort-item.is ∙ sym (get_or-map (λ s. constants_in s.sort) sorts c.loop-sort.sort-index item g c.loop-sort-test.true) in
    let within : c.loop-sort.sort-index < length (constants_of sorts) = omega (arith, c.loop-sort-test.true, length-map sorts (λ s. constants_in s.sort)) in
    rw (c.loop-sort.invariant, c.constants_declared.ensures) (distinct-next (constants_of sorts) c.loop-sort.sort-index g within is c.requires.distinct)

pub with-requires-clause-names : goal.with-requires-clause-names
with-requires-clause-names c =
    let sorts = c.args.sorts.now in
    let item = c.sort-item.result in
    let g = constants_in item.sort in
    let is = ap (λ s. constants_in s.sort) c.sort-item.is ∙ sym (get_or-map (λ s. constants_in s.sort) sorts c.loop-sort.sort-index item g c.loop-sort-test.true) in
    let within : c.loop-sort.sort-index < length (constants_of sorts) = omega (arith, c.loop-sort-test.true, length-map sorts (λ s. constants_in s.sort)) in
    let few = few-next (constants_of sorts) c.loop-sort.sort-index g within is in
    rw (c.loop-sort.invariant, c.constants_declared.ensures) (omega (arith, few, c.requires.counted))

pub loop-sort-preserved : goal.loop-sort-preserved
loop-sort-preserved c =
    let sorts = c.args.sorts.now in
    let item = c.sort-item.result in
    let g = constants_in item.sort in
    let is = ap (λ s. constants_in s.sort) c.sort-item.is ∙ sym (get_or-map (λ s. constants_in s.sort) sorts c.loop-sort.sort-index item g c.loop-sort-test.true) in
    let within : c.loop-sort.sort-index < length (constants_of sorts) = omega (arith, c.loop-sort-test.true, length-map sorts (λ s. constants_in s.sort)) in
    c.in_ok-groups.ensures ∙ ap (λ gs. gs ++ c.constants_declared.result.now ∷ []) c.loop-sort.invariant ∙ ap (λ x. take c.loop-sort.sort-index (constants_of sorts) ++ x ∷ []) (c.constants_declared.ensures ∙ is)
    ∙ sym (take_more (constants_of sorts) c.loop-sort.sort-index g within)
