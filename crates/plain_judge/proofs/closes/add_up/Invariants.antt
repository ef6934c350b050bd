use Rattle.std.proofs.Common.{◌≡◌, length, pos, replicate, take}
use Rattle.plain_judge.proofs.Residues.{IsAddedUp}
use Rattle.plain_judge.proofs.closes.add_up.Given as goal

abbrev pub invariant-loop-multiplier : goal.invariant-loop-multiplier
invariant-loop-multiplier l =
    IsAddedUp l.net l.property.property l.certificate l.flows.ids (take l.multiplier-index l.certificate.close) l.sums l.total
    × (l.coefficients ≡ replicate (length l.flows.ids) (pos 0))
