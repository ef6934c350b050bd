use Rattle.std.proofs.Common.{◌≡◌, ◌-◌, ◌≤◌, length, take}
use Rattle.bindings.specs.Listed.{IsBinding}
use Rattle.guard_walks.specs.Testing.{Passed, Stands}
use Rattle.guard_walks.specs.Walks.{all_sizes, is_part_true_at, values_at}
use Rattle.guard_walks.proofs.walking.bind.Given as goal

abbrev pub invariant-loop-next : goal.invariant-loop-next
invariant-loop-next l = record {
  number : l.progress.number ≡ l.number;
  fits : IsBinding (all_sizes l.signature) l.indices;
  stands : Stands l.walk.sizes l.progress (values_at l.indices l.walk.variables);
  within : l.at ≤ length l.walk.tests;
  passed : Passed (is_part_true_at l.signature l.walk.guard) (all_sizes l.signature) l.walk.variables (take l.at l.walk.tests) l.progress.bound l.indices;
}

abbrev pub decreases-loop-next : goal.decreases-loop-next
decreases-loop-next l = length l.walk.sizes - l.progress.bound
