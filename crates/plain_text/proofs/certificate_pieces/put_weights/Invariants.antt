use Rattle.std.proofs.Common.{◌≡◌, ◌++◌, take, flat_map}
use Rattle.plain_text.specs.Certificates.{weight_word}
use Rattle.plain_text.proofs.certificate_pieces.put_weights.Given as goal

abbrev pub invariant-loop-weight : goal.invariant-loop-weight
invariant-loop-weight l = l.comparison ≡ l.fn.comparison ++ flat_map weight_word (take l.weight-index l.weights)
