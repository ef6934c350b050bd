use Rattle.std.proofs.Common.{◌≡◌, ℕ, ◌<◌, ◌≤◌, ◌^◌, get_or}
use Rattle.wide_sums.specs.Total.{zero_total}
use Rattle.plain_judge.specs.Residuals.{sum_with_part}
use Rattle.plain_judge.proofs.residuals.add_part.Given as goal

abbrev pub invariant-loop-place : goal.invariant-loop-place
invariant-loop-place l =
    ((p : ℕ) → p < l.place → get_or l.sums p zero_total ≡ sum_with_part l.multiplier l.coefficients l.fn.sums p)
    × ((p : ℕ) → l.place ≤ p → get_or l.sums p zero_total ≡ get_or l.fn.sums p zero_total)
    × ((p : ℕ) → p < l.place → (sum_with_part l.multiplier l.coefficients l.fn.sums p).size < 2 ^ 127)
