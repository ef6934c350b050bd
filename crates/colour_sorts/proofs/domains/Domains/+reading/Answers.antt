use Rattle.std.proofs.Common.{rules, ◌/◌, arith, length, map, drop, sym, ap, ◌∙◌, Some, FitsSigned, w64, to_z-of_z}
use Rattle.std.proofs.lemmas.Option.{slice_get-map}
use Rattle.std.specs.Option.{option_map}
use Rattle.colour_sorts.specs.declared.sorts.Sort.TheViews.{the_lemmas}
use Rattle.colour_sorts.specs.declared.sorts.Colour.TheVariants as variants
use Rattle.colour_sorts.specs.Colours.{colours, constants_at, size, span_numbers, tuple, tuples}
use Rattle.colour_sorts.proofs.Folds.{colours-Product, colours-Range, colours-Listed, colours-Cyclic, size-Range}
use Rattle.colour_sorts.proofs.Tuples.{found-step, found-more, found-all}
use Rattle.colour_sorts.proofs.domains.Domains.+reading.Goals as goal

pub colour_at-number_at-requires : goal.colour_at-number_at-requires
colour_at-number_at-requires t c =
    let constants = c.args.self.now.constants in
    omega (arith, c.requires.within, ap (size constants) c.in-Range.is, size-Range constants c.in-Range.span)

pub colour_at-returns-in-Ok : goal.colour_at-returns-in-Ok
colour_at-returns-in-Ok t c =
    let constants = c.args.self.now.constants in
    let names = constants_at constants c.in-Listed.at in
    rw (ap (colours constants) c.in-Listed.is ∙ colours-Listed constants c.in-Listed.at)
    (slice_get-map variants.Constant names c.args.index ∙ ap (option_map variants.Constant) c.in-Ok.ensures)

pub colour_at-returns-in-Ok-constant_name : goal.colour_at-returns-in-Ok-constant_name
colour_at-returns-in-Ok-constant_name t c =
    let constants = c.args.self.now.constants in
    let names = constants_at constants c.in-Cyclic.at in
    rw (ap (colours constants) c.in-Cyclic.is ∙ colours-Cyclic constants c.in-Cyclic.at)
    (slice_get-map variants.Constant names c.args.index ∙ ap (option_map variants.Constant) c.in-Ok-constant_name.ensures)

pub colour_at-returns-in-Range : goal.colour_at-returns-in-Range
colour_at-returns-in-Range t c =
    let constants = c.args.self.now.constants in
    let numbers = span_numbers c.in-Range.span in
    let fits : FitsSigned w64 c.number_at.result = search rules in
    rw (ap (colours constants) c.in-Range.is ∙ colours-Range constants c.in-Range.span)
    (simp to_z-of_z (slice_get-map variants.Number numbers c.args.index ∙ ap (option_map variants.Number) c.number_at.ensures))

pub colour_at-returns-in-Ok-tuple_at : goal.colour_at-returns-in-Ok-tuple_at
colour_at-returns-in-Ok-tuple_at t c =
    let constants = c.args.self.now.constants in
    let all = tuples (map (colours constants) c.in-Product.parts) in
    let known = rw c.as_slice.ensures at c.in-Ok-tuple_at.ensures in
    rw (ap (colours constants) c.in-Product.is ∙ colours-Product constants c.in-Product.parts)
    (rw (← variants.rolls-Tuple c.in-Ok-tuple_at.components)
    (slice_get-map tuple all c.args.index ∙ ap (option_map tuple) known))

pub tuple_at-size-requires-clause-limit : goal.tuple_at-size-requires-clause-limit
tuple_at-size-requires-clause-limit t c =
    let constants = c.args.self.now.constants in
    let facts = found-step (colours constants) c.args.parts.now c.loop-part.part-index c.args.index c.loop-part.place (tuples (map (colours constants) c.args.parts.now)) c.part-item.result c.loop-part.components.items c.loop-part-test.true c.part-item.is c.loop-part.invariant.found in
    omega (arith, facts.least, c.requires.limit)

pub tuple_at-nonzero_div-rests : goal.tuple_at-nonzero_div-rests
tuple_at-nonzero_div-rests t c =
    let constants = c.args.self.now.constants in
    let facts = found-step (colours constants) c.args.parts.now c.loop-part.part-index c.args.index c.loop-part.place (tuples (map (colours constants) c.args.parts.now)) c.part-item.result c.loop-part.components.items c.loop-part-test.true c.part-item.is c.loop-part.invariant.found in
    omega (arith, facts.some, c.size.ensures)

pub tuple_at-nonzero_div-place : goal.tuple_at-nonzero_div-place
tuple_at-nonzero_div-place t c =
    let constants = c.args.self.now.constants in
    let facts = found-step (colours constants) c.args.parts.now c.loop-part.part-index c.args.index c.loop-part.place (tuples (map (colours constants) c.args.parts.now)) c.part-item.result c.loop-part.components.items c.loop-part-test.true c.part-item.is c.loop-part.invariant.found in
    rw (c.loop-part.invariant.rests, c.size.ensures, facts.quotient) facts.left

pub tuple_at-nonzero_rem-place : goal.tuple_at-nonzero_rem-place
tuple_at-nonzero_rem-place t c =
    let constants = c.args.self.now.constants in
    let facts = found-step (colours constants) c.args.parts.now c.loop-part.part-index c.args.index c.loop-part.place (tuples (map (colours constants) c.args.parts.now)) c.part-item.result c.loop-part.components.items c.loop-part-test.true c.part-item.is c.loop-part.invariant.found in
    rw (c.loop-part.invariant.rests, c.size.ensures, facts.quotient) facts.left

pub tuple_at-colour_at-requires : goal.tuple_at-colour_at-requires
tuple_at-colour_at-requires t c =
    let constants = c.args.self.now.constants in
    let facts = found-step (colours constants) c.args.parts.now c.loop-part.part-index c.args.index c.loop-part.place (tuples (map (colours constants) c.args.parts.now)) c.part-item.result c.loop-part.components.items c.loop-part-test.true c.part-item.is c.loop-part.invariant.found in
    (search (rules, the_lemmas), (rw (c.loop-part.invariant.rests, c.size.ensures, facts.quotient) facts.small, omega (arith, facts.least, c.requires.limit)))

pub tuple_at-loop-part-preserved : goal.tuple_at-loop-part-preserved
tuple_at-loop-part-preserved t c =
    let constants = c.args.self.now.constants in
    let facts = found-step (colours constants) c.args.parts.now c.loop-part.part-index c.args.index c.loop-part.place (tuples (map (colours constants) c.args.parts.now)) c.part-item.result c.loop-part.components.items c.loop-part-test.true c.part-item.is c.loop-part.invariant.found in
    let rests = ap (λ n. n / c.size.result) c.loop-part.invariant.rests ∙ ap (λ s. length (tuples (map (colours constants) (drop c.loop-part.part-index c.args.parts.now))) / s) c.size.ensures ∙ facts.quotient in
    let here = rw rests at c.in_ok-colour_at.ensures in
    record {
      rests = rests;
      found = rw (rests, c.in_ok-push.ensures.items) (found-more (colours constants) c.args.parts.now c.loop-part.part-index c.args.index c.loop-part.place (tuples (map (colours constants) c.args.parts.now)) c.part-item.result c.loop-part.components.items c.in_ok-colour_at.field-0 c.loop-part-test.true c.part-item.is c.loop-part.invariant.found here);
    }

pub tuple_at-returns : goal.tuple_at-returns
tuple_at-returns t c =
    let constants = c.args.self.now.constants in
    found-all (colours constants) c.args.parts.now c.loop-part.part-index c.args.index c.loop-part.place (tuples (map (colours constants) c.args.parts.now)) c.loop-part.components.items c.loop-part-test.false c.loop-part.invariant.found
    ∙ ap Some (sym c.from_vec.ensures)
