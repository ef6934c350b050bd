-- Markings as lists of counts, one for each place, against rows of cells.
use Rattle.std.specs.Prelude.{ℕ, ◌+◌, ◌^◌, ◌<◌, ◌≤◌, List, map, All, slice_index}
use Rattle.std.specs.List.{range_with_len}
use Rattle.wide_sums.specs.declared.rows.Cell.{Cell}
use Rattle.wide_sums.specs.Cells.{amount}

-- a row as the list of the counts of the first `n` places
abbrev pub counts_of : ℕ → List Cell → List ℕ
counts_of n row = map (λ p. amount p row) (range_with_len 0 n)

-- the row has no place from `n` on
abbrev pub IsInRange : ℕ → List Cell → Type 0
IsInRange n row = All (λ c. c.at < n) row

-- each place of the marking has at least what the row has there
abbrev pub Covers : List ℕ → List Cell → Type 0
Covers marking row = (p : ℕ) → amount p row ≤ slice_index marking p

-- some place has less
abbrev pub IsShort : List ℕ → List Cell → Type 0
IsShort marking row = (p : ℕ) × (slice_index marking p < amount p row)

-- at some place, what is there without `pre` and with `post` is more than 2^63 - 1
abbrev pub IsFull : List ℕ → List Cell → List Cell → Type 0
IsFull marking pre post = (p : ℕ) × (2 ^ 63 + amount p pre ≤ slice_index marking p + amount p post)
