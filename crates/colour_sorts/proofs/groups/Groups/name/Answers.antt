use Rattle.std.proofs.Common.{arith, get_or}
use Rattle.colour_sorts.proofs.Constants.{part-from, group-at, no_group}
use Rattle.colour_sorts.proofs.groups.Groups.name.Goals as goal

pub returns : goal.returns
returns c =
    let names = c.self.inside.names in
    let group = get_or c.self.inside.groups c.args.at no_group in
    let known = group-at names c.self.inside.groups c.args.self.now c.args.at c.self.view_is c.self.invariant.1 (omega (arith, c.requires)) in
    let there = rw c.as_slice.ensures at c.name.ensures.name in
    rw known.listed (part-from names group.first group.count c.args.index c.name.result.now known.room (omega (arith, known.count, c.requires)) there)
