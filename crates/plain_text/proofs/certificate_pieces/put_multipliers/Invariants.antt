use Rattle.std.proofs.Common.{◌≡◌, ◌++◌, take, flat_map}
use Rattle.plain_text.specs.Certificates.{multiplier_word}
use Rattle.plain_text.proofs.certificate_pieces.put_multipliers.Given as goal

abbrev pub invariant-loop-multiplier : goal.invariant-loop-multiplier
invariant-loop-multiplier l = l.comparison ≡ l.fn.comparison ++ flat_map multiplier_word (take l.multiplier-index l.multipliers)
