-- What is marked while the parts of a certificate are examined.
use Rattle.std.specs.Prelude.{◌≡◌, ℕ, List, length, slice_index, Some, true, Bool, All, AllPairs}
use Rattle.name_tables.specs.Numbering.{number_in}
use Rattle.plain_model.specs.Plain.{IsPlainMultiplier, MultiplyApart}
use Rattle.plain_model.specs.declared.certificates.Multiplier.{Multiplier}
use Rattle.plain_model.specs.declared.certificates.Multiplier.TheVariants.{Fact, Hypothesis}

-- the number of the name among the names has this mark
abbrev pub IsMarked : List (List ℕ) → List ℕ → ℕ → List ℕ → Type 0
IsMarked names marks mark name = (at : ℕ) → number_in names name ≡ Some at → slice_index marks at ≡ mark

-- the fact of the summand has the mark 1, or the hypothesis is met
abbrev pub IsMet : List (List ℕ) → List ℕ → Bool → Multiplier → Type 0
IsMet names marks is_hypothesis_met (Fact factor) = IsMarked names marks 1 factor.fact
IsMet names marks is_hypothesis_met (Hypothesis value number) = is_hypothesis_met ≡ true

-- the summands are in form and apart, and each is met
pub record AreExamined (names : List (List ℕ)) (close : List Multiplier) (marks : List ℕ) (is_hypothesis_met : Bool) : Type 0 where
  pub long : length marks ≡ length names
  pub plain : All (IsPlainMultiplier names) close
  pub once : AllPairs MultiplyApart close
  pub met : All (IsMet names marks is_hypothesis_met) close
