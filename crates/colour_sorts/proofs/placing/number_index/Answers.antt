use Rattle.std.proofs.Common.{rules, arith, FitsSigned, w64, to_z-of_z}
use Rattle.std.proofs.lemmas.Int.{ints}
use Rattle.colour_sorts.proofs.PlacesIn.{number-found, number-below, number-above}
use Rattle.colour_sorts.proofs.placing.number_index.Goals as goal

pub returns-then-number-span : goal.returns-then-number-span
returns-then-number-span c =
    let fits : FitsSigned w64 c.args.span.now.first = search rules in
    let fits2 : FitsSigned w64 c.args.number = search rules in
    let below = simp to_z-of_z at c.if-number-span.true in
    number-below c.args.span.now c.args.number (omega (arith, ints, below))

pub returns-then-span-number : goal.returns-then-span-number
returns-then-span-number c =
    let fits : FitsSigned w64 c.args.span.now.last = search rules in
    let fits2 : FitsSigned w64 c.args.number = search rules in
    let above = simp to_z-of_z at c.if-span-number.true in
    number-above c.args.span.now c.args.number (omega (arith, ints, above))

pub returns : goal.returns
returns c =
    let fits : FitsSigned w64 c.args.span.now.last = search rules in
    let fits2 : FitsSigned w64 c.args.number = search rules in
    let last = simp to_z-of_z at c.if-span-number.false in
    number-found c.args.span.now c.args.number c.steps_between.result (omega (arith, ints, last)) (search (rules, c.steps_between.ensures))
