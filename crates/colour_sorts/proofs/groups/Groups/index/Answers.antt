use Rattle.std.proofs.Common.{sym, ◌∙◌, get_or}
use Rattle.colour_sorts.proofs.Constants.{place-by, place-nowhere, group-at, no_group}
use Rattle.colour_sorts.proofs.groups.Groups.index.Goals as goal

pub returns-in-Some : goal.returns-in-Some
returns-in-Some c =
    let names = c.self.inside.names in
    let group = get_or c.self.inside.groups c.args.at no_group in
    let known = group-at names c.self.inside.groups c.args.self.now c.args.at c.self.view_is c.self.invariant.1 c.requires in
    let there = rw c.as_slice.ensures at c.place_in_group.ensures in
    rw known.listed (place-by names c.args.name.now group.first group.count c.in-Some.number c.place_in_group.result c.self.invariant.0 known.room (sym c.find.ensures ∙ c.in-Some.is) there)

pub returns-in-None : goal.returns-in-None
returns-in-None c =
    let names = c.self.inside.names in
    let group = get_or c.self.inside.groups c.args.at no_group in
    let known = group-at names c.self.inside.groups c.args.self.now c.args.at c.self.view_is c.self.invariant.1 c.requires in
    rw known.listed (place-nowhere names c.args.name.now group.first group.count c.self.invariant.0 known.room (sym c.find.ensures ∙ c.in-None.is))
