use Rattle.std.proofs.Common.{rules, refl, ◌+ℤ◌, pos}
use Rattle.colour_sorts.specs.Colours.{span_length}
use Rattle.colour_sorts.proofs.PlacesIn.{slice_get-rising, number-last}
use Rattle.colour_sorts.proofs.naming.number_at.Goals as goal

pub overflow_add-result : goal.overflow_add-result
overflow_add-result c =
    let last = number-last c.args.span c.args.index c.requires in
    search (rules, last)

pub returns : goal.returns
returns c =
    let last = number-last c.args.span c.args.index c.requires in
    let there = slice_get-rising c.args.span.first (span_length c.args.span) c.args.index (c.args.span.first +ℤ pos c.args.index) c.requires refl in
    search (rules, last, there)
