use Rattle.std.proofs.Common.{◌≡◌, ◌≤◌, length, take}
use Rattle.case_tree.specs.Agendas.{bounds_of}
use Rattle.case_tree.specs.Bounds.{with_lowers}
use Rattle.case_tree.proofs.paths.name_lowers.Given as goal

abbrev pub invariant-loop-cell : goal.invariant-loop-cell
invariant-loop-cell l = record {
  within : l.cell-index ≤ length l.cells;
  named : l.bounds ≡ with_lowers (bounds_of (take l.cell-index l.cells)) l.fn.bounds;
}
