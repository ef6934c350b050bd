-- What a `close` line adds up to.
use Rattle.std.specs.Prelude.{◌≡◌, ℕ, ◌^◌, ◌<◌, ◌≤◌, ◌⊎◌, List, [], map, false, length, slice_index_or, ℤ, pos, int_le, int_lt, ◌&&◌, if◌then◌else◌}
use Rattle.wide_sums.specs.Total.{Total, total_of, zero_total}
use Rattle.std.specs.List.{list_all, list_any}
use Rattle.plain_model.specs.declared.nets.PlainNet.{PlainNet}
use Rattle.plain_model.specs.declared.properties.Property.{Property}
use Rattle.plain_model.specs.declared.certificates.Certificate.{Certificate}
use Rattle.plain_model.specs.declared.verdicts.Check.{Check}
use Rattle.plain_model.specs.declared.verdicts.Check.TheVariants as check
use Rattle.plain_model.specs.Forms.{Form}
use Rattle.plain_model.specs.Sums.{is_wide, sum_of}
use Rattle.plain_judge.specs.Residuals.{AddsPart, FitPart, IsPartWide}
use Rattle.plain_model.specs.Obligations.{Part, parts, residual_coefficient, residual_constant, close_sums, is_refuted, judged}

-- each sum is the total of the residual's coefficient on the place of that name, and in range
abbrev pub AreResiduals : List (List ℕ) → List Part → List Total → Type 0
AreResiduals names ps sums =
    (place : ℕ) → place < length names
    → (slice_index_or sums place zero_total ≡ total_of (residual_coefficient ps (slice_index_or names place []))) × ((slice_index_or sums place zero_total).size < 2 ^ 127)

-- the constants of the slack forms and that of the residual are in range
pub record IsConstantInRange (ps : List Part) : Type 0 where
  pub slacks : list_any is_wide (map (λ part. part.slack.constant) ps) ≡ false
  pub residual : (total_of (residual_constant ps)).size < 2 ^ 127

-- no coefficient is positive and the constant is below 0
abbrev pub residual_check : List Total → ℤ → Check
residual_check sums constant = if list_all (λ sum. int_le sum.value (pos 0)) sums && int_lt constant (pos 0) then check.True else check.False

-- the obligation of a `close` line whose signs are right
abbrev pub sums_check : PlainNet → Property → Certificate → Check
sums_check net property certificate = judged (close_sums net (parts net property certificate)) (is_refuted net (parts net property certificate))

-- a multiple of the slack form is added to the residual: its coefficients to the sums, and this is its constant
pub record AddsSlack (names : List (List ℕ)) (multiplier : ℤ) (slack : Form) (old new : List Total) (value : ℤ) : Type 0 where
  pub added : AddsPart multiplier (map slack.coefficient names) old new
  pub sums_fit : FitPart multiplier (map slack.coefficient names) old
  pub constant : value ≡ sum_of slack.constant
  pub constant_fits : (total_of slack.constant).size < 2 ^ 127

-- some sum is out of range with that multiple, or the constant is
abbrev pub IsSlackWide : List (List ℕ) → ℤ → Form → List Total → Type 0
IsSlackWide names multiplier slack sums = IsPartWide multiplier (map slack.coefficient names) sums ⊎ (2 ^ 127 ≤ (total_of slack.constant).size)
