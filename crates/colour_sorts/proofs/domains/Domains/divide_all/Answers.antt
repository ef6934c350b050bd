use Rattle.std.proofs.Common.{◌<◌, [], sym, ap, ◌∙◌, arith, length, length-append, map, take}
use Rattle.std.proofs.lemmas.List.{get_or-map, length-map}
use Rattle.net_model.specs.Ids.{element_ids, names_in}
use Rattle.colour_sorts.proofs.Grouped.{few-next}
use Rattle.colour_sorts.proofs.Partitioned.{divided-more, fault-here, sound-with}
use Rattle.colour_sorts.proofs.domains.Domains.divide_all.Goals as goal

pub divide_partition-requires-clause-stands : goal.divide_partition-requires-clause-stands
divide_partition-requires-clause-stands c = (c.requires.stands.0, [], c.requires.stands.1)

pub divide_partition-requires-clause-count : goal.divide_partition-requires-clause-count
divide_partition-requires-clause-count c =
    let ps = c.args.partitions.now in
    let item = c.partition-item.result in
    let is = ap element_ids c.partition-item.is ∙ sym (get_or-map element_ids ps c.loop-partition.partition-index item (element_ids item) c.loop-partition-test.true) in
    let within : c.loop-partition.partition-index < length (map element_ids ps) = omega (arith, c.loop-partition-test.true, length-map ps element_ids) in
    let few = few-next (map element_ids ps) c.loop-partition.partition-index (element_ids item) within is in
    let long = length-append (names_in (take c.loop-partition.partition-index (map element_ids ps))) (element_ids item) in
    omega (arith, few, long, c.requires.count)

pub returns-in-Err : goal.returns-in-Err
returns-in-Err c = λ sorts stands.
    (let ps = c.args.partitions.now in
    let i = c.loop-partition.partition-index in
    let known = rw c.in-Err.is at c.in_ok-division.ensures sorts [] stands in
    c.refused.ensures sorts ps
    (fault-here sorts ps i c.partition-item.result c.in-Err.rule c.loop-partition-test.true c.partition-item.is (sound-with sorts (take i ps) stands.sound (c.loop-partition.invariant sorts stands).sound) known))

pub loop-partition-preserved : goal.loop-partition-preserved
loop-partition-preserved c = λ sorts stands.
    (let known = rw c.in-Ok.is at c.in_ok-division.ensures sorts [] stands in
    divided-more sorts c.args.partitions.now c.loop-partition.divisions.items c.push.new.self.items c.loop-partition.partition-index c.partition-item.result c.in-Ok.division c.loop-partition-test.true c.partition-item.is
    (c.loop-partition.invariant sorts stands) known.0 known.1 known.2 c.in_ok-push-in-Ok.ensures.items)
