use Rattle.std.proofs.Common.{rules, ◌*◌, drop, ◌+◌, length, map, ◌∙◌, sym, ap, arith}
use Rattle.colour_sorts.specs.Colours.{colours, constants_at, size, tuples}
use Rattle.colour_sorts.proofs.Folds.{size-Product, size-Range, size-Listed, size-Cyclic}
use Rattle.colour_sorts.proofs.Tuples.{factors-drop}
use Rattle.colour_sorts.specs.declared.sorts.Sort.TheViews.{the_lemmas}
use Rattle.colour_sorts.proofs.domains.Domains.+counting.Goals as goal

pub size-span_length-requires-clause-limit : goal.size-span_length-requires-clause-limit
size-span_length-requires-clause-limit t c =
    let constants = c.args.self.now.constants in
    omega (arith, c.requires.limit, ap (size constants) c.in-Range.is, size-Range constants c.in-Range.span)

pub size-count-requires : goal.size-count-requires
size-count-requires t c =
    let constants = c.args.self.now.constants in
    omega (arith, c.requires.some, ap (size constants) c.in-Listed.is, size-Listed constants c.in-Listed.at)

pub size-count-requires-in-Cyclic : goal.size-count-requires-in-Cyclic
size-count-requires-in-Cyclic t c =
    let constants = c.args.self.now.constants in
    omega (arith, c.requires.some, ap (size constants) c.in-Cyclic.is, size-Cyclic constants c.in-Cyclic.at)

pub size-returns-in-Range : goal.size-returns-in-Range
size-returns-in-Range t c =
    let constants = c.args.self.now.constants in
    c.span_length.ensures ∙ sym (size-Range constants c.in-Range.span) ∙ sym (ap (size constants) c.in-Range.is)

pub size-returns-in-Listed : goal.size-returns-in-Listed
size-returns-in-Listed t c =
    let constants = c.args.self.now.constants in
    c.count.ensures ∙ ap (λ d. length (constants_at d.constants c.in-Listed.at)) c.self.view_is ∙ sym (size-Listed constants c.in-Listed.at) ∙ sym (ap (size constants) c.in-Listed.is)

pub size-returns-in-Cyclic : goal.size-returns-in-Cyclic
size-returns-in-Cyclic t c =
    let constants = c.args.self.now.constants in
    c.count-in-Cyclic.ensures ∙ ap (λ d. length (constants_at d.constants c.in-Cyclic.at)) c.self.view_is ∙ sym (size-Cyclic constants c.in-Cyclic.at) ∙ sym (ap (size constants) c.in-Cyclic.is)

pub size-returns-in-Product : goal.size-returns-in-Product
size-returns-in-Product t c =
    let constants = c.args.self.now.constants in
    c.tuple_count.ensures ∙ ap (λ parts. length (tuples (map (colours constants) parts))) c.as_slice.ensures
    ∙ sym (size-Product constants c.in-Product.parts) ∙ sym (ap (size constants) c.in-Product.is)

pub tuple_count-size-count-requires : goal.tuple_count-size-count-requires
tuple_count-size-count-requires t c =
    let constants = c.args.self.now.constants in
    let known = factors-drop (colours constants) c.args.parts.now c.loop-part.part-index c.part-item.result c.loop-part.count _ c.loop-part-test.true c.loop-part.invariant c.requires.some in
    let e = ap (size constants) c.part-item.is in
    (search (rules, the_lemmas), (omega (arith, known.some, e), omega (arith, known.least, e, c.requires.limit)))

pub tuple_count-overflow_mul-count : goal.tuple_count-overflow_mul-count
tuple_count-overflow_mul-count t c =
    let constants = c.args.self.now.constants in
    let known = factors-drop (colours constants) c.args.parts.now c.loop-part.part-index c.part-item.result c.loop-part.count _ c.loop-part-test.true c.loop-part.invariant c.requires.some in
    let e = c.size-count.ensures ∙ ap (size constants) c.part-item.is in
    rw e (omega (arith, known.partial, c.requires.limit))

pub tuple_count-loop-part-preserved : goal.tuple_count-loop-part-preserved
tuple_count-loop-part-preserved t c =
    let constants = c.args.self.now.constants in
    let known = factors-drop (colours constants) c.args.parts.now c.loop-part.part-index c.part-item.result c.loop-part.count _ c.loop-part-test.true c.loop-part.invariant c.requires.some in
    let e = c.size-count.ensures ∙ ap (size constants) c.part-item.is in
    ap (λ n. (c.loop-part.count * n) * length (tuples (map (colours constants) (drop (c.loop-part.part-index + 1) c.args.parts.now)))) e ∙ known.again
