use Rattle.std.proofs.Common.{ℕ, ◌-◌, take}
use Rattle.wide_sums.specs.Cells.{amount}
use Rattle.multiset_terms.specs.Buffers.{Gains}
use Rattle.multiset_terms.specs.Rows.{AreBelow, AreRead, total}
use Rattle.multiset_terms.proofs.differences.push_difference.Given as goal

-- the buffer has what the cells of the whole that were read have more than those of the part
abbrev pub invariant-loop-at : goal.invariant-loop-at
invariant-loop-at l = record {
  read : AreRead l.whole l.part l.at l.taken;
  gains : (size : ℕ) → AreBelow size l.whole → Gains l.scale size (λ q. amount q (take l.at l.whole) - amount q (take l.taken l.part)) (total (take l.at l.whole)) l.fn.cells.items l.cells.items;
}
