use Rattle.std.proofs.Common.{rules, arith, map, sym, ap, ◌∙◌, subst}
use Rattle.std.proofs.lemmas.List.{length-map}
use Rattle.std.proofs.lemmas.Option.{slice_get_within}
use Rattle.colour_sorts.specs.declared.sorts.Sort.TheViews.{the_lemmas}
use Rattle.colour_sorts.specs.declared.sorts.Colour.TheVariants as variants
use Rattle.colour_sorts.specs.Colours.{colours, size, tuple, tuples}
use Rattle.colour_sorts.specs.Places.{IsPlace}
use Rattle.colour_sorts.proofs.Folds.{colours-Product, size-Range, tuple-injective}
use Rattle.colour_sorts.proofs.PlacesIn.{IsPlace-map, IsPlace-apart}
use Rattle.colour_sorts.proofs.Tuples.{reads-all, reads-missing, reads-more, room-of, tuple-of-other-length}
use Rattle.colour_sorts.proofs.domains.Domains.+placing.Goals as goal

pub index_of-range_index-requires : goal.index_of-range_index-requires
index_of-range_index-requires t c =
    let constants = c.args.self.now.constants in
    omega (arith, c.requires.limit, ap (size constants) c.in-Range.is, size-Range constants c.in-Range.span)

pub index_of-returns-in-Tuple : goal.index_of-returns-in-Tuple
index_of-returns-in-Tuple t c =
    let constants = c.args.self.now.constants in
    let known = rw (c.as_slice.ensures, c.as_slice-in-Tuple.ensures) at c.tuple_index.ensures in
    rw (ap (colours constants) c.in-Product.is ∙ colours-Product constants c.in-Product.parts)
    (rw (c.in-Tuple.is ∙ sym (variants.rolls-Tuple c.in-Tuple.components))
    (IsPlace-map tuple tuple-injective (tuples (map (colours constants) c.in-Product.parts)) c.in-Tuple.components c.tuple_index.result known))

pub index_of-returns-in_default-colour : goal.index_of-returns-in_default-colour
index_of-returns-in_default-colour t c =
    let constants = c.args.self.now.constants in
    rw (ap (colours constants) c.in-Product.is ∙ colours-Product constants c.in-Product.parts)
    (IsPlace-apart tuple (tuples (map (colours constants) c.in-Product.parts)) c.args.colour.now (λ cs e. c.in_default-colour.not-Tuple cs (e ∙ variants.rolls-Tuple cs)))

pub tuple_index-returns-then-parts-components : goal.tuple_index-returns-then-parts-components
tuple_index-returns-then-parts-components t c =
    let constants = c.args.self.now.constants in
    tuple-of-other-length (map (colours constants) c.args.parts.now) c.args.components.now
    (λ e. c.if-parts-components.true (sym (length-map c.args.parts.now (colours constants)) ∙ e))

pub tuple_index-index_of-requires : goal.tuple_index-index_of-requires
tuple_index-index_of-requires t c =
    let constants = c.args.self.now.constants in
    let room = room-of (colours constants) c.args.parts.now c.args.components.now c.loop-at.at c.loop-at.index (tuples (map (colours constants) c.args.parts.now)) c.index-parts-at.result c.loop-at-test.true c.index-parts-at.is c.loop-at.invariant in
    (search (rules, the_lemmas), (room.some, omega (arith, room.least, c.requires.limit)))

pub tuple_index-size-requires-clause-limit : goal.tuple_index-size-requires-clause-limit
tuple_index-size-requires-clause-limit t c =
    let constants = c.args.self.now.constants in
    let room = room-of (colours constants) c.args.parts.now c.args.components.now c.loop-at.at c.loop-at.index (tuples (map (colours constants) c.args.parts.now)) c.index-parts-at.result c.loop-at-test.true c.index-parts-at.is c.loop-at.invariant in
    omega (arith, room.least, c.requires.limit)

pub tuple_index-overflow_mul-index : goal.tuple_index-overflow_mul-index
tuple_index-overflow_mul-index t c =
    let constants = c.args.self.now.constants in
    let room = room-of (colours constants) c.args.parts.now c.args.components.now c.loop-at.at c.loop-at.index (tuples (map (colours constants) c.args.parts.now)) c.index-parts-at.result c.loop-at-test.true c.index-parts-at.is c.loop-at.invariant in
    rw c.size.ensures (omega (arith, room.scaled, c.requires.limit))

pub tuple_index-overflow_add-index : goal.tuple_index-overflow_add-index
tuple_index-overflow_add-index t c =
    let constants = c.args.self.now.constants in
    let room = room-of (colours constants) c.args.parts.now c.args.components.now c.loop-at.at c.loop-at.index (tuples (map (colours constants) c.args.parts.now)) c.index-parts-at.result c.loop-at-test.true c.index-parts-at.is c.loop-at.invariant in
    let place = subst (IsPlace (colours constants c.index-parts-at.result) c.index-components-at.result) c.in-Some.is c.index_of.ensures in
    let small = slice_get_within (colours constants c.index-parts-at.result) c.in-Some.place c.index-components-at.result place.found in
    rw c.size.ensures (omega (arith, room.next c.in-Some.place small, c.requires.limit))

pub tuple_index-returns-in-None : goal.tuple_index-returns-in-None
tuple_index-returns-in-None t c =
    let constants = c.args.self.now.constants in
    let place = subst (IsPlace (colours constants c.index-parts-at.result) c.index-components-at.result) c.in-None.is c.index_of.ensures in
    reads-missing (colours constants) c.args.parts.now c.args.components.now c.loop-at.at c.loop-at.index (tuples (map (colours constants) c.args.parts.now)) c.index-parts-at.result c.index-components-at.result
    c.loop-at-test.true (omega (arith, c.loop-at-test.true, c.if-parts-components.false)) c.index-parts-at.is c.index-components-at.is c.loop-at.invariant place

pub tuple_index-loop-at-preserved : goal.tuple_index-loop-at-preserved
tuple_index-loop-at-preserved t c =
    let constants = c.args.self.now.constants in
    let place = subst (IsPlace (colours constants c.index-parts-at.result) c.index-components-at.result) c.in-Some.is c.index_of.ensures in
    let small = slice_get_within (colours constants c.index-parts-at.result) c.in-Some.place c.index-components-at.result place.found in
    rw c.size.ensures
    (reads-more (colours constants) c.args.parts.now c.args.components.now c.loop-at.at c.loop-at.index c.in-Some.place (tuples (map (colours constants) c.args.parts.now)) c.index-parts-at.result c.index-components-at.result
    c.loop-at-test.true (omega (arith, c.loop-at-test.true, c.if-parts-components.false)) c.index-parts-at.is c.index-components-at.is c.loop-at.invariant place small)

pub tuple_index-returns : goal.tuple_index-returns
tuple_index-returns t c =
    let constants = c.args.self.now.constants in
    reads-all (colours constants) c.args.parts.now c.args.components.now c.loop-at.at c.loop-at.index (tuples (map (colours constants) c.args.parts.now))
    c.loop-at-test.false (omega (arith, c.loop-at-test.false, c.if-parts-components.false)) c.loop-at.invariant
