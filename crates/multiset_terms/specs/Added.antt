-- Buffers to which the values of compiled terms were added, and rows that are such values.
use Rattle.std.specs.Prelude.{◌≡◌, ◌+◌, ◌≤◌, ◌^◌, ℕ, true, List, All}
use Rattle.wide_sums.specs.declared.rows.Cell.{Cell}
use Rattle.wide_sums.specs.Cells.{IsRow, amount}
use Rattle.multiset_terms.specs.declared.buffers.Scale.{Scale}
use Rattle.multiset_terms.specs.Buffers.{Gains, placed}
use Rattle.multiset_terms.specs.Rows.{AreBelow, total}
use Rattle.multiset_terms.specs.Trees.{Reading, are_defined, are_of_size, count_sum, gross_sum}

-- a buffer to which the value of a reading was added, and one to which the sum of some was
pub record IsAdded (r : Reading) (scale : Scale) (old : List Cell) (new : List Cell) : Type 0 where
  pub defined : r.is_defined ≡ true
  pub gains : Gains scale r.size r.count r.gross old new

pub record AreAdded (rs : List Reading) (scale : Scale) (old : List Cell) (new : List Cell) : Type 0 where
  pub defined : are_defined rs ≡ true
  pub gains : (size : ℕ) → are_of_size size rs ≡ true → Gains scale size (count_sum rs) (gross_sum rs) old new

-- a reading of no elements at any place
pub record IsNothing (r : Reading) (offset : ℕ) : Type 0 where
  pub defined : r.is_defined ≡ true
  pub none : (p : ℕ) → placed offset r.size r.count p ≡ 0

-- places from an offset on that are numbers of 32 bits
abbrev pub HaveRoom : ℕ → List Reading → Type 0
HaveRoom offset rs = All (λ r. offset + r.size ≤ 2 ^ 32) rs

-- a row that is the value of a reading
pub record IsValue (r : Reading) (row : List Cell) : Type 0 where
  pub is_row : IsRow row
  pub defined : r.is_defined ≡ true
  pub counts : (p : ℕ) → amount p row ≡ placed 0 r.size r.count p
  pub elements : total row ≤ r.gross
  pub inside : AreBelow r.size row
