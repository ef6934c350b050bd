use Rattle.std.proofs.Common.{◌≡◌, map, take}
use Rattle.cert_lines.specs.Sums.{multiplier_amount}
use Rattle.cert_lines.proofs.sums.amounts_of.Given as goal

abbrev pub invariant-loop-multiplier : goal.invariant-loop-multiplier
invariant-loop-multiplier l = map (λ amount. (amount.name, amount.size)) l.amounts.items ≡ map multiplier_amount (take l.multiplier-index l.multipliers)
