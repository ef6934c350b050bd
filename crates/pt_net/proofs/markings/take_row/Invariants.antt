use Rattle.std.proofs.Common.{◌≡◌, ℕ, ◌+◌, ◌≤◌, take, drop}
use Rattle.std.specs.Prelude.{slice_index}
use Rattle.wide_sums.specs.Cells.{amount}
use Rattle.pt_net.proofs.markings.take_row.Given as goal

-- what was taken so far, and that what is left can be taken
abbrev pub invariant-loop-cell : goal.invariant-loop-cell
invariant-loop-cell l = record {
  taken : (p : ℕ) → slice_index l.counts p + amount p (take l.cell-index l.row) ≡ slice_index l.fn.counts p;
  left : (p : ℕ) → amount p (drop l.cell-index l.row) ≤ slice_index l.counts p;
}
