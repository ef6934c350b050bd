use Rattle.std.proofs.Common.{◌≡◌, ℕ, ◌+◌, ◌^◌, ◌<◌, take, drop}
use Rattle.std.specs.Prelude.{slice_index}
use Rattle.wide_sums.specs.Cells.{amount}
use Rattle.pt_net.proofs.markings.put_row.Given as goal

-- what was added so far, and that what is left has room
abbrev pub invariant-loop-cell : goal.invariant-loop-cell
invariant-loop-cell l = record {
  added : (p : ℕ) → slice_index l.counts p ≡ slice_index l.fn.counts p + amount p (take l.cell-index l.row);
  room : (p : ℕ) → slice_index l.counts p + amount p (drop l.cell-index l.row) < 2 ^ 63;
}
