use Rattle.std.proofs.Common.{◌≡◌, ℕ, ◌+◌, ◌<◌, ◌≤◌, take, drop, get_or, length}
use Rattle.std.specs.Prelude.{All}
use Rattle.wide_sums.specs.declared.rows.Cell.{Cell}
use Rattle.wide_sums.specs.Cells.{IsRow, amount}
use Rattle.multiset_terms.specs.Rows.{AreBelow, total}
use Rattle.multiset_terms.proofs.buffers.join.Given as goal

-- the first cells are a row of what was read, and what comes is as it was and not in front of them
abbrev pub invariant-loop-read : goal.invariant-loop-read
invariant-loop-read l = record {
  order : l.kept ≤ l.read;
  many : length l.cells.items ≡ length l.fn.cells.items;
  rest : drop l.read l.cells.items ≡ drop l.read l.fn.cells.items;
  front : IsRow (take l.kept l.cells.items);
  counts : (p : ℕ) → amount p (take l.kept l.cells.items) + amount p (drop l.read l.fn.cells.items) ≡ amount p l.fn.cells.items;
  elements : total (take l.kept l.cells.items) + total (drop l.read l.fn.cells.items) ≡ total l.fn.cells.items;
  later : (j : ℕ) (d : Cell) → l.read ≤ j → j < length l.fn.cells.items → All (λ c. c.at ≤ (get_or l.fn.cells.items j d).at) (take l.kept l.cells.items);
  below : (bound : ℕ) → AreBelow bound l.fn.cells.items → AreBelow bound (take l.kept l.cells.items);
}
