-- Sparse rows of counts: lists of cells, each a place and the count there.
use Rattle.std.specs.Prelude.{ℕ, ◌<◌, ◌^◌, List, All, AllPairs, sum_by, nat_eq, if◌then◌else◌}
use Rattle.wide_sums.specs.declared.rows.Cell.{Cell}

-- what one cell adds at the place `p`
abbrev pub count_at : ℕ → Cell → ℕ
count_at p c = if nat_eq c.at p then c.count else 0

-- how much a row has at the place `p`: the sum of the counts of the cells there
abbrev pub amount : ℕ → List Cell → ℕ
amount p cells = sum_by (count_at p) cells

-- the places of the cells rise strictly
abbrev pub IsRising : List Cell → Type 0
IsRising cells = AllPairs (λ a b. a.at < b.at) cells

-- the counts of the cells are from 1 to 2^63 - 1
abbrev pub IsCounted : List Cell → Type 0
IsCounted cells = All (λ c. (0 < c.count) × (c.count < 2 ^ 63)) cells

-- a list of cells that a row can have
pub record IsRow (cells : List Cell) : Type 0 where
  pub rising : IsRising cells
  pub counted : IsCounted cells
