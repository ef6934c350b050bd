-- Values that are added to the cells of a buffer.
use Rattle.std.specs.Prelude.{◌≡◌, ℕ, ◌+◌, ◌-◌, ◌*◌, ◌<◌, ◌≤◌, ◌&&◌, nat_le, nat_lt, if◌then◌else◌, List}
use Rattle.wide_sums.specs.declared.rows.Cell.{Cell}
use Rattle.wide_sums.specs.Cells.{amount}
use Rattle.multiset_terms.specs.declared.buffers.Scale.{Scale}
use Rattle.multiset_terms.specs.Rows.{AreBelow, total}

-- a cell whose place is moved on, with its count so many times
abbrev pub cell_of : Scale → ℕ → ℕ → Cell
cell_of scale at count = record { at = scale.offset + at; count = scale.times * count }

-- counts over so many places, from the offset on
abbrev pub placed : ℕ → ℕ → (ℕ → ℕ) → ℕ → ℕ
placed offset size count p = if nat_le offset p && nat_lt p (offset + size) then count (p - offset) else 0

-- the amounts rise by counts over so many places, with at most so many elements
pub record Gains (scale : Scale) (size : ℕ) (count : ℕ → ℕ) (gross : ℕ) (old : List Cell) (new : List Cell) : Type 0 where
  pub counts : (p : ℕ) → amount p new ≡ amount p old + scale.times * placed scale.offset size count p
  pub elements : total new ≤ total old + scale.times * gross
  pub below : (bound : ℕ) → AreBelow bound old → scale.offset + size ≤ bound → AreBelow bound new
