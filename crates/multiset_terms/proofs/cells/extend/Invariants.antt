use Rattle.std.proofs.Common.{◌≡◌, ℕ, ◌+◌, ◌-◌, ◌*◌, ◌/◌, ◌%◌}
use Rattle.wide_sums.specs.Cells.{amount, count_at}
use Rattle.multiset_terms.specs.Rows.{AreBelow, total}
use Rattle.multiset_terms.specs.Trees.{is_between, once}
use Rattle.multiset_terms.proofs.cells.extend.Given as goal

abbrev pub invariant-loop-choice : goal.invariant-loop-choice
invariant-loop-choice l = record {
  counts : (p : ℕ) → amount p l.row ≡ amount p l.fn.row + count_at (p / l.size) l.front * once (is_between l.from l.choice (p % l.size));
  total : total l.row ≡ total l.fn.row + l.front.count * (l.choice - l.from);
  below : AreBelow (l.front.at * l.size + l.choice) l.row;
}
