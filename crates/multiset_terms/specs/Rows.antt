-- Rows of counts that stand for a multiset over colour indices.
use Rattle.std.specs.Prelude.{◌≡◌, ℕ, ◌+◌, ◌^◌, ◌<◌, ◌≤◌, ◌*◌, List, All, AllPairs, sum_by, length, take, drop, slice_index_or}
use Rattle.wide_sums.specs.declared.rows.Cell.{Cell}
use Rattle.wide_sums.specs.Cells.{IsRow, amount, count_at}

-- all counts of a row together
abbrev pub total : List Cell → ℕ
total cells = sum_by (λ c. c.count) cells

-- the places of all cells are below a bound
abbrev pub AreBelow : ℕ → List Cell → Type 0
AreBelow size cells = All (λ c. c.at < size) cells

-- a row of a multiset over so many indices, with at most so many elements
pub record IsRowOf (size : ℕ) (gross : ℕ) (count : ℕ → ℕ) (row : List Cell) : Type 0 where
  pub counts : (p : ℕ) → amount p row ≡ count p
  pub elements : total row ≤ gross
  pub below : AreBelow size row

-- the places of the cells don't fall
abbrev pub AreInOrder : List Cell → Type 0
AreInOrder cells = AllPairs (λ a b. a.at ≤ b.at) cells

-- a row that is contained in another, and one with a place at which it isn't
abbrev pub IsWithin : List Cell → List Cell → Type 0
IsWithin part whole = (p : ℕ) → amount p part ≤ amount p whole

abbrev pub IsShort : List Cell → List Cell → Type 0
IsShort part whole = (p : ℕ) × (amount p whole < amount p part)

-- fronts behind which there is room for the indices of so many colours
abbrev pub AreFronts : ℕ → List Cell → Type 0
AreFronts size fronts = All (λ c. c.at * size + size ≤ 2 ^ 20) fronts

abbrev pub no_cell : Cell
no_cell = record { at = 0; count = 0 }

-- the first cells are a row with one more cell, and the cells behind that one are as they were
pub record IsTakenIn (old : List Cell) (kept read : ℕ) (new : List Cell) (more : ℕ) : Type 0 where
  pub many : length new ≡ length old
  pub order : more ≤ read + 1
  pub rest : drop (read + 1) new ≡ drop (read + 1) old
  pub front : IsRow (take more new)
  pub counts : (p : ℕ) → amount p (take more new) ≡ amount p (take kept old) + count_at p (slice_index_or old read no_cell)
  pub elements : total (take more new) ≡ total (take kept old) + (slice_index_or old read no_cell).count
  pub later : All (λ c. c.at ≤ (slice_index_or old read no_cell).at) (take more new)
  pub below : (bound : ℕ) → AreBelow bound (take kept old) → (slice_index_or old read no_cell).at < bound → AreBelow bound (take more new)

-- of two rows the first cells, none of which stands behind a cell of the other that comes
pub record AreRead (whole : List Cell) (part : List Cell) (at : ℕ) (taken : ℕ) : Type 0 where
  pub order : taken ≤ length part
  pub inside : (q : ℕ) → amount q (take taken part) ≤ amount q (take at whole)
  pub ahead : (j : ℕ) (d : Cell) → taken ≤ j → j < length part → AreBelow (slice_index_or part j d).at (take at whole)
  pub behind : (j : ℕ) (d : Cell) → at ≤ j → j < length whole → AreBelow (slice_index_or whole j d).at (take taken part)

-- the next cell of the whole is read, with so much of the part at its place
pub record IsTakenOff (whole : List Cell) (part : List Cell) (at : ℕ) (taken : ℕ) (less : ℕ) (more : ℕ) : Type 0 where
  pub read : AreRead whole part (at + 1) more
  pub enough : less ≤ (slice_index_or whole at no_cell).count
  pub counts : (q : ℕ) → amount q (take more part) ≡ amount q (take taken part) + count_at q (record { at = (slice_index_or whole at no_cell).at; count = less })
