use Rattle.std.proofs.Common.{slice_index_or, ◌<◌, slice_index_or, length, ◌∙◌, ap, subst, sym, arith}
use Rattle.std.proofs.lemmas.List.{take_all}
use Rattle.path_bounds.specs.Held.{with_upper}
use Rattle.case_tree.specs.Agendas.{bounds_of}
use Rattle.case_tree.specs.Bounds.{with_uppers}
use Rattle.case_tree.proofs.paths.name_uppers.Goals as goal
use Rattle.case_tree.proofs.Bounding.{uppers_begun, uppers_more, taken_length}

pub loop-cell-init : goal.loop-cell-init
loop-cell-init c = record {
  within = omega arith;
  named = uppers_begun c.args.bounds.now;
}

pub name_upper-requires-clause-place : goal.name_upper-requires-clause-place
name_upper-requires-clause-place c =
    subst (λ n. (slice_index_or c.args.cells.now c.loop-cell.cell-index record { at = 0; count = 0 }).at < n) (sym (ap (λ h. h.places) c.loop-cell.invariant.named)) (c.requires.places c.loop-cell.cell-index record { at = 0; count = 0 } c.loop-cell-test.true)

pub name_upper-requires-clause-room : goal.name_upper-requires-clause-room
name_upper-requires-clause-room c =
    let is = ap (λ h. length h.uppers) c.loop-cell.invariant.named in
    let room = ap (λ h. h.room) c.loop-cell.invariant.named in
    let long = taken_length c.args.bounds.now.uppers c.args.cells.now c.loop-cell.cell-index c.loop-cell.invariant.within in
    omega (arith, is, room, long, c.requires.room, c.loop-cell-test.true)

pub loop-cell-preserved : goal.loop-cell-preserved
loop-cell-preserved c = record {
  within = omega (arith, c.loop-cell-test.true);
  named = c.name_upper.ensures ∙ ap (with_upper _ _) c.loop-cell.invariant.named ∙ uppers_more c.args.bounds.now c.args.cells.now c.loop-cell.cell-index record { at = 0; count = 0 } c.loop-cell-test.true;
}

pub returns : goal.returns
returns c =
    c.loop-cell.invariant.named ∙ ap (λ cells. with_uppers (bounds_of cells) c.args.bounds.now) (take_all c.loop-cell.cell-index c.args.cells.now (omega (arith, c.loop-cell-test.false)))
