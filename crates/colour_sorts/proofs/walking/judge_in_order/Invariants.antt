use Rattle.std.proofs.Common.{◌≡◌, ℕ, ◌<◌, Some}
use Rattle.std.specs.List.{slice_get}
use Rattle.colour_sorts.specs.Walking.{AreMarked, IsMarkedAt}
use Rattle.colour_sorts.proofs.walking.judge_in_order.Given as goal

abbrev pub invariant-loop-at : goal.invariant-loop-at
invariant-loop-at l = record {
  marked : AreMarked l.sorts l.marks;
  done : (k at : ℕ) → k < l.at-index → slice_get l.order k ≡ Some at → IsMarkedAt l.sorts l.marks at;
}
