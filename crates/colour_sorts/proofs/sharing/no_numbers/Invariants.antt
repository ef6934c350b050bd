use Rattle.std.proofs.Common.{◌≡◌, replicate, None}
use Rattle.colour_sorts.proofs.sharing.no_numbers.Given as goal

abbrev pub invariant-loop-at : goal.invariant-loop-at
invariant-loop-at l = l.numbers.items ≡ replicate l._at None
