use Rattle.std.proofs.Common.{◌≡◌, ℕ, ◌<◌, ◌≤◌, true}
use Rattle.std.specs.Prelude.{slice_index}
use Rattle.multiset_terms.specs.Conditions.{condition_uses_at}
use Rattle.guard_walks.specs.Walks.{part_at}
use Rattle.guard_walks.proofs.making.needs_of.Given as goal

abbrev pub invariant-loop-position : goal.invariant-loop-position
invariant-loop-position l = record {
  within : l.needs ≤ l.position;
  last : (k : ℕ) → k < l.position → condition_uses_at (slice_index l.variables k) (part_at l.guard l.at) ≡ true → k < l.needs;
}
