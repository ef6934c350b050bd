use Rattle.bindings.proofs.Binding.{IsBound}
use Rattle.bindings.proofs.numbers.binding_at.Given as goal

abbrev pub invariant-loop-at : goal.invariant-loop-at
invariant-loop-at l = IsBound l.sizes l.indices l.at l.rest l.number

abbrev pub decreases-loop-at : goal.decreases-loop-at
decreases-loop-at l = l.at
