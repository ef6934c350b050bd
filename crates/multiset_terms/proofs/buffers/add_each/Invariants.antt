use Rattle.std.proofs.Common.{nat_lt}
use Rattle.multiset_terms.specs.Buffers.{Gains}
use Rattle.multiset_terms.specs.Trees.{once}
use Rattle.multiset_terms.proofs.buffers.add_each.Given as goal

abbrev pub invariant-loop-at : goal.invariant-loop-at
invariant-loop-at l = Gains l.scale l.size (λ p. once (nat_lt p l.at)) l.at l.fn.cells.items l.cells.items
