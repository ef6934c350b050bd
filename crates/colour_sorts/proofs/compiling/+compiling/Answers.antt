use Rattle.colour_sorts.proofs.Compiled.{compiled-Product, compiled-all, compiled-more, uncompiled-part}
use Rattle.colour_sorts.proofs.compiling.+compiling.Goals as goal

pub compile-returns-in-Ok-Some : goal.compile-returns-in-Ok-Some
compile-returns-in-Ok-Some t c =
    let known = rw c.in-Ok-Some.field-0-is at c.in-Ok-Some.ensures in
    let inner = rw c.as_slice.ensures at known in
    rw c.in-Product.is (compiled-Product c.args.ids.now c.args.compiled.now c.args.at c.in-Product.parts c.in-Ok-Some.sorts inner)

pub compile_parts-returns-in-None : goal.compile_parts-returns-in-None
compile_parts-returns-in-None t c =
    let known = rw c.in-None.is at c.in_ok-sort.ensures in
    uncompiled-part c.args.ids.now c.args.compiled.now c.args.parts.now c.loop-part.part-index c.part-item.result c.loop-part-test.true c.part-item.is known

pub compile_parts-loop-part-preserved : goal.compile_parts-loop-part-preserved
compile_parts-loop-part-preserved t c =
    let known = rw c.in-Some.is at c.in_ok-sort.ensures in
    rw c.in_ok-push-in-Some.ensures.items
    (compiled-more c.args.ids.now c.args.compiled.now c.args.at c.args.parts.now c.loop-part.part-index c.part-item.result c.loop-part.sorts.items c.in-Some.sort c.loop-part-test.true c.part-item.is c.loop-part.invariant known)

pub compile_parts-returns : goal.compile_parts-returns
compile_parts-returns t c =
    rw c.from_vec.ensures (compiled-all c.args.ids.now c.args.compiled.now c.args.at c.args.parts.now c.loop-part.part-index c.loop-part.sorts.items c.loop-part-test.false c.loop-part.invariant)
