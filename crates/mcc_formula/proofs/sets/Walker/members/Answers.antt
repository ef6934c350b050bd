use Rattle.std.proofs.Common.{◌+◌}
use Rattle.std.proofs.lemmas.Result.{err_from_is_err_and}
use Rattle.mcc_model.specs.Files.{member_notes}
use Rattle.mcc_formula.proofs.LeftNotes.{left_members, left_members_are, walk_done, walk_stops}
use Rattle.mcc_formula.proofs.sets.Walker.members.Goals as goal

pub returns-in_err-member : goal.returns-in_err-member
returns-in_err-member c =
    let p = err_from_is_err_and c.from_residual.result c.from_residual.ensures.1 in
    let es = c.args.children.now in
    let at = c.loop-child.child-index in
    let e = c.child-item.result in
    rw (p.1, p.2)
    (walk_stops c.loop-child.self c.member.new.self c.member.new.self (left_members es at) (member_notes e) (left_members es (at + 1)) _ c.in_err-member.field-0.0
    (left_members_are es at e c.loop-child-test.true c.child-item.is) c.loop-child.invariant c.in_err-member.ensures)

pub loop-child-preserved : goal.loop-child-preserved
loop-child-preserved c =
    let es = c.args.children.now in
    let at = c.loop-child.child-index in
    let e = c.child-item.result in
    walk_done c.loop-child.self c.member.new.self (left_members es at) (member_notes e) (left_members es (at + 1)) _
    (left_members_are es at e c.loop-child-test.true c.child-item.is) c.loop-child.invariant c.in_ok-member.ensures
