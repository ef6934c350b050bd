use Rattle.std.proofs.Common.{rules, FitsSigned, w64, to_z-of_z}
use Rattle.colour_sorts.specs.declared.sorts.Colour.TheVariants as variants
use Rattle.colour_sorts.specs.Colours.{span_numbers}
use Rattle.colour_sorts.proofs.Folds.{Number-injective}
use Rattle.colour_sorts.proofs.PlacesIn.{IsPlace-map, IsPlace-apart}
use Rattle.colour_sorts.proofs.placing.range_index.Goals as goal

pub returns-in-Number : goal.returns-in-Number
returns-in-Number c =
    let fits : FitsSigned w64 c.in-Number.number = search rules in
    let known = simp to_z-of_z at c.number_index.ensures in
    rw c.in-Number.is (IsPlace-map variants.Number Number-injective (span_numbers c.args.span.now) c.in-Number.number c.number_index.result known)

pub returns-in_default : goal.returns-in_default
returns-in_default c = IsPlace-apart variants.Number (span_numbers c.args.span.now) c.args.colour.now c.in_default.not-Number
