use Rattle.std.proofs.Common.{◌-◌}
use Rattle.bindings.specs.Listed.{IsBinding}
use Rattle.guard_walks.specs.Walks.{all_sizes}
use Rattle.guard_walk_examples.proofs.walks.kept_by.Given as goal

abbrev pub invariant-loop-number : goal.invariant-loop-number
invariant-loop-number l = IsBinding (all_sizes l.signature) l.indices

abbrev pub decreases-loop-number : goal.decreases-loop-number
decreases-loop-number l = l.ends.1 - l.number
