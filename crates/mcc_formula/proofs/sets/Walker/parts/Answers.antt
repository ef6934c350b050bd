use Rattle.std.proofs.Common.{◌+◌, take}
use Rattle.std.proofs.lemmas.Result.{err_from_is_err_and}
use Rattle.mcc_model.specs.Files.{part_notes}
use Rattle.mcc_formula.proofs.LeftNotes.{left_parts, left_parts_are, walk_done, walk_stops}
use Rattle.mcc_formula.proofs.sets.Walker.parts.Goals as goal

pub returns-in_err-part : goal.returns-in_err-part
returns-in_err-part c =
    let p = err_from_is_err_and c.from_residual.result c.from_residual.ensures.1 in
    let es = c.args.children.now in
    let at = c.loop-at.at in
    let e = c.index-children-at.result in
    rw (p.1, p.2)
    (walk_stops c.loop-at.self c.part.new.self c.part.new.self (left_parts es at) (part_notes (take at es) e) (left_parts es (at + 1)) _ c.in_err-part.field-0.0
    (left_parts_are es at e c.loop-at-test.true c.index-children-at.is) c.loop-at.invariant c.in_err-part.ensures)

pub loop-at-preserved : goal.loop-at-preserved
loop-at-preserved c =
    let es = c.args.children.now in
    let at = c.loop-at.at in
    let e = c.index-children-at.result in
    walk_done c.loop-at.self c.part.new.self (left_parts es at) (part_notes (take at es) e) (left_parts es (at + 1)) _
    (left_parts_are es at e c.loop-at-test.true c.index-children-at.is) c.loop-at.invariant c.in_ok-part.ensures
