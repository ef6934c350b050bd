-- The terms of an obligation over sparse rows.
use Rattle.std.specs.Prelude.{List, ◌++◌, map, Bool, true, false, nat_eq, nat_le, ◌^◌, if◌then◌else◌, ℤ, pos, ◌*ℤ◌, neg_ℤ, unsigned_abs, slice_index_or}
use Rattle.wide_sums.specs.declared.rows.Cell.{Cell}
use Rattle.plain_model.specs.declared.verdicts.Check.{Check}
use Rattle.plain_model.specs.declared.verdicts.Check.TheVariants as check
use Rattle.wide_sums.specs.Total.{Total, total_of}

-- a term, negated where it is taken
abbrev pub signed : Bool → ℤ → ℤ
signed is_taken term = if is_taken then neg_ℤ term else term

-- the count of a cell times the coefficient of its place
abbrev pub cell_term : Bool → List ℤ → Cell → ℤ
cell_term is_taken coefficients cell = signed is_taken (slice_index_or coefficients cell.at (pos 0) *ℤ pos cell.count)

abbrev pub cell_terms : Bool → List ℤ → List Cell → List ℤ
cell_terms is_taken coefficients cells = map (cell_term is_taken coefficients) cells

-- what is put, and what is taken
abbrev pub row_terms : List ℤ → List Cell → List Cell → List ℤ
row_terms coefficients taken put = cell_terms false coefficients put ++ cell_terms true coefficients taken

-- a weighted sum stays where its terms are in range and add up to 0
abbrev pub keeps_total : Total → Check
keeps_total total = if nat_le (2 ^ 127) total.size then check.Wide else if nat_eq (unsigned_abs total.value) 0 then check.True else check.False

-- a step over these rows keeps the weighted sum
abbrev pub cells_check : List ℤ → List Cell → List Cell → Check
cells_check coefficients taken put = keeps_total (total_of (row_terms coefficients taken put))
