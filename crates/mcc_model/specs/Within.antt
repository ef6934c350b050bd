-- Goals over the numbers of a net: each number that a formula lists is that of a place or of a transition, and its own numbers
-- are below 2^63.
use Rattle.std.specs.Prelude.{ℕ, ◌^◌, Bool, ◌&&◌, nat_lt, List}
use Rattle.std.specs.List.{list_all}
use Rattle.mcc_model.specs.declared.formulas.Count.{Count}
use Rattle.mcc_model.specs.declared.formulas.Count.TheVariants.{Number, Tokens}
use Rattle.mcc_model.specs.declared.formulas.Formula.{Formula, fold-Formula}
use Rattle.mcc_model.specs.declared.formulas.Formula.TheOpen as layer

abbrev pub are_below : ℕ → List ℕ → Bool
are_below limit numbers = list_all (λ n. nat_lt n limit) numbers

abbrev pub count_within : ℕ → Count → Bool
count_within places (Number n) = nat_lt n (2 ^ 63)
count_within places (Tokens listed) = are_below places listed

abbrev pub within_by_parts : ℕ → ℕ → layer.Formula-F Bool → Bool
within_by_parts places transitions (layer.Not f) = f
within_by_parts places transitions (layer.And fs) = list_all (λ f. f) fs
within_by_parts places transitions (layer.Or fs) = list_all (λ f. f) fs
within_by_parts places transitions (layer.AtMost first second) = count_within places first && count_within places second
within_by_parts places transitions (layer.Fireable listed) = are_below transitions listed

-- over so many places and transitions
abbrev pub is_within : ℕ → ℕ → Formula → Bool
is_within places transitions f = fold-Formula Bool (within_by_parts places transitions) f
