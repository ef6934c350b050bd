use Rattle.std.proofs.Common.{◌≡◌, ℕ, ◌-◌, ◌*◌, ◌/◌, ◌%◌, take}
use Rattle.wide_sums.specs.Cells.{amount}
use Rattle.multiset_terms.specs.Rows.{AreBelow, total}
use Rattle.multiset_terms.specs.Trees.{is_between, once}
use Rattle.multiset_terms.proofs.cells.extended.Given as goal

abbrev pub invariant-loop-front : goal.invariant-loop-front
invariant-loop-front l = record {
  counts : (p : ℕ) → amount p l.row ≡ amount (p / l.size) (take l.front-index l.fronts) * once (is_between l.from l.to (p % l.size));
  total : total l.row ≡ total (take l.front-index l.fronts) * (l.to - l.from);
  below : (lead : ℕ) → AreBelow lead (take l.front-index l.fronts) → AreBelow (lead * l.size) l.row;
}
