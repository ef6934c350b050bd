-- This project's own. Items by number, each with what entering it adds to the state of a path: hypotheses and items are numbers.
use Rattle.std.specs.Prelude.{ℕ, ◌+◌, List, [], length, map, sum_by, slice_index_or}
use Rattle.wide_sums.specs.declared.rows.Cell.{Cell}

pub record Added : Type 0 where
  pub hypotheses : List ℕ
  -- each choice as the numbers of its items
  pub choices : List (List ℕ)
  pub lowers : List (ℕ × ℕ)
  pub uppers : List (ℕ × ℕ)

abbrev pub nothing_added : Added
nothing_added = record { hypotheses = []; choices = []; lowers = []; uppers = [] }

-- what entering the item adds; nothing where there is no such item
abbrev pub added_by : List Added → ℕ → Added
added_by items item = slice_index_or items item nothing_added

-- how many hypotheses, items of choices and bounds these are
abbrev pub weight : Added → ℕ
weight added = length added.hypotheses + sum_by length added.choices + length added.lowers + length added.uppers

-- cells as places and counts
abbrev pub bounds_of : List Cell → List (ℕ × ℕ)
bounds_of cells = map (λ c. (c.at, c.count)) cells
