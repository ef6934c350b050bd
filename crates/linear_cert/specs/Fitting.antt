-- Totals as far as they are in range.
use Rattle.std.specs.Prelude.{◌^◌, List, [], ◌∷◌, Bool, nat_le, if◌then◌else◌, ℤ, pos, neg_ℤ, int_le, Option, Some, None}
use Rattle.cert_model.specs.declared.Check.{Check}
use Rattle.cert_model.specs.declared.Check.TheVariants as check
use Rattle.wide_sums.specs.Total.{Total, with_term}

-- the total, where its size is at most 2^127 - 1
abbrev pub fitting : Total → Option Total
fitting total = if nat_le (2 ^ 127) total.size then None else Some total

-- with one more term
abbrev pub plus : Option Total → ℤ → Option Total
plus None term = None
plus (Some total) term = fitting (with_term total term)

abbrev pub plus_all : Option Total → List ℤ → Option Total
plus_all total [] = total
plus_all total (term ∷ terms) = plus_all (plus total term) terms

-- a term, negated where it is taken
abbrev pub signed : Bool → ℤ → ℤ
signed is_taken term = if is_taken then neg_ℤ term else term

-- whether the total isn't negative
abbrev pub not_negative : Option Total → Check
not_negative None = check.Wide
not_negative (Some total) = if int_le (pos 0) total.value then check.True else check.False
