use Rattle.std.proofs.Common.{◌<◌, ◌++◌, ◌∷◌, [], ap, sym, ◌∙◌, arith, length, map, take}
use Rattle.std.proofs.lemmas.List.{get_or-map, length-map, take_more}
use Rattle.net_model.specs.Ids.{element_ids}
use Rattle.colour_sorts.proofs.Grouped.{distinct-next, few-next}
use Rattle.colour_sorts.proofs.partitions.elements_of_partitions.Goals as goal

pub with-requires-clause-distinct : goal.with-requires-clause-distinct
with-requires-clause-distinct c =
    let ps = c.args.partitions.now in
    let item = c.partition-item.result in
    let g = element_ids item in
    let is = ap element_ids c.partition-item.is ∙ sym (get_or-map element_ids ps c.loop-partition.partition-index item g c.loop-partition-test.true) in
    let within : c.loop-partition.partition-index < length (map element_ids ps) = omega (arith, c.loop-partition-test.true, length-map ps element_ids) in
    rw (c.loop-partition.invariant, c.as_slice-in-loop-partition.ensures.value ∙ c.in_ok-ids.ensures ∙ ap (λ es. map (λ element. element.id) es) c.as_slice.ensures) (distinct-next (map element_ids ps) c.loop-partition.partition-index g within is c.requires.distinct)

pub with-requires-clause-names : goal.with-requires-clause-names
with-requires-clause-names c =
    let ps = c.args.partitions.now in
    let item = c.partition-item.result in
    let g = element_ids item in
    let is = ap element_ids c.partition-item.is ∙ sym (get_or-map element_ids ps c.loop-partition.partition-index item g c.loop-partition-test.true) in
    let within : c.loop-partition.partition-index < length (map element_ids ps) = omega (arith, c.loop-partition-test.true, length-map ps element_ids) in
    let few = few-next (map element_ids ps) c.loop-partition.partition-index g within is in
    rw (c.loop-partition.invariant, c.as_slice-in-loop-partition.ensures.value ∙ c.in_ok-ids.ensures ∙ ap (λ es. map (λ element. element.id) es) c.as_slice.ensures) (omega (arith, few, c.requires.counted))

pub loop-partition-preserved : goal.loop-partition-preserved
loop-partition-preserved c =
    let ps = c.args.partitions.now in
    let item = c.partition-item.result in
    let g = element_ids item in
    let is = ap element_ids c.partition-item.is ∙ sym (get_or-map element_ids ps c.loop-partition.partition-index item g c.loop-partition-test.true) in
    let within : c.loop-partition.partition-index < length (map element_ids ps) = omega (arith, c.loop-partition-test.true, length-map ps element_ids) in
    c.in_ok-groups.ensures ∙ ap (λ gs. gs ++ c.as_slice-in-loop-partition.result.now ∷ []) c.loop-partition.invariant
    ∙ ap (λ x. take c.loop-partition.partition-index (map element_ids ps) ++ x ∷ []) (c.as_slice-in-loop-partition.ensures.value ∙ c.in_ok-ids.ensures ∙ ap (λ es. map (λ element. element.id) es) c.as_slice.ensures ∙ is)
    ∙ sym (take_more (map element_ids ps) c.loop-partition.partition-index g within)
