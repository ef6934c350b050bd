use Rattle.std.proofs.Common.{◌≡◌, length, ◌-◌, ◌≤◌, take}
use Rattle.guard_walks.specs.Testing.{Passed}
use Rattle.guard_walks.specs.Walks.{all_sizes, is_part_true_at}
use Rattle.guard_walks.proofs.testing.ready.Given as goal

abbrev pub invariant-loop-at : goal.invariant-loop-at
invariant-loop-at l = record {
  same : l.tests ≡ l.walk.tests;
  within : l.at ≤ length l.walk.tests;
  passed : Passed (is_part_true_at l.signature l.walk.guard) (all_sizes l.signature) l.walk.variables (take l.at l.walk.tests) l.bound l.indices;
}

abbrev pub decreases-loop-at : goal.decreases-loop-at
decreases-loop-at l = length l.walk.tests - l.at
