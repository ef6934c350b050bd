use Rattle.std.proofs.Common.{◌≡◌, true, ℕ, List, ◌∷◌, length, ◌<◌, ◌≤◌, ◌+◌, ◌*◌, drop, get_or, arith, sym, ap, ◌∙◌}
use Rattle.multiset_terms.specs.declared.trees.Tree.{Tree}
use Rattle.multiset_terms.specs.Trees.{reading, readings, tuple_size, tuple_place, are_colours}
use Rattle.multiset_terms.proofs.Readings.{size-Next, size-Before, readings-drop, TupleStep, tuple-step}
use Rattle.multiset_terms.proofs.trees.+placing.Goals as goal

pub place-index_behind-requires : goal.place-index_behind-requires
place-index_behind-requires t c =
    let sound = ap (λ tree. (reading c.args.binding.now tree).is_sound) (sym c.in-Next.is) ∙ c.requires.sound in
    let size = size-Next c.args.binding.now c.in-Next.size c.in-Next.child sound in
    let same = ap (λ tree. (reading c.args.binding.now tree).size) c.get.ensures in
    omega (arith, c.place.ensures.within)

pub place-index_before-requires : goal.place-index_before-requires
place-index_before-requires t c =
    let sound = ap (λ tree. (reading c.args.binding.now tree).is_sound) (sym c.in-Before.is) ∙ c.requires.sound in
    let size = size-Before c.args.binding.now c.in-Before.size c.in-Before.child sound in
    let same = ap (λ tree. (reading c.args.binding.now tree).size) c.get-in-Before.ensures in
    omega (arith, c.place-in-Before.ensures.within)

step_of : (b : List ℕ) (parts : List Tree) (i at : ℕ) (part : Tree) → i < length parts → part ≡ get_or parts i part
    → tuple_place at (readings b (drop i parts)) ≡ tuple_place 0 (readings b parts) → are_colours (readings b (drop i parts)) ≡ true
    → (at + 1) * tuple_size (readings b (drop i parts)) ≤ tuple_size (readings b parts)
    → TupleStep at (tuple_place 0 (readings b parts)) (tuple_size (readings b parts)) (reading b part) (readings b (drop (i + 1) parts))
step_of b parts i at part within is place colours room =
    let next = readings-drop b parts i part within ∙ ap (λ tree. reading b tree ∷ readings b (drop (i + 1) parts)) (sym is) in
    tuple-step at (tuple_place 0 (readings b parts)) (tuple_size (readings b parts)) (reading b part) (readings b (drop (i + 1) parts)) (readings b (drop i parts)) next place colours room

pub place_of_tuple-overflow_mul-at : goal.place_of_tuple-overflow_mul-at
place_of_tuple-overflow_mul-at t c =
    let known = c.loop-part.invariant in
    let step = step_of c.args.binding.now c.args.parts.now c.loop-part.part-index c.loop-part.at c.part-item.result c.loop-part-test.true c.part-item.is known.place known.colours known.within in
    let size = c.size_of.ensures c.args.binding.now step.colour.choice in
    rw size (omega (arith, c.requires.fits, step.room))

pub place_of_tuple-overflow_add-at : goal.place_of_tuple-overflow_add-at
place_of_tuple-overflow_add-at t c =
    let known = c.loop-part.invariant in
    let step = step_of c.args.binding.now c.args.parts.now c.loop-part.part-index c.loop-part.at c.part-item.result c.loop-part-test.true c.part-item.is known.place known.colours known.within in
    let size = c.size_of.ensures c.args.binding.now step.colour.choice in
    rw size (omega (arith, c.requires.fits, step.room, step.colour.within, c.place.ensures.place))

pub place_of_tuple-loop-part-preserved : goal.place_of_tuple-loop-part-preserved
place_of_tuple-loop-part-preserved t c =
    let known = c.loop-part.invariant in
    let step = step_of c.args.binding.now c.args.parts.now c.loop-part.part-index c.loop-part.at c.part-item.result c.loop-part-test.true c.part-item.is known.place known.colours known.within in
    let size = c.size_of.ensures c.args.binding.now step.colour.choice in
    rw (size, c.place.ensures.place) (record { place = step.place; colours = step.colours; within = step.within })
