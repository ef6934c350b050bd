use Rattle.std.proofs.Common.{◌≡◌, false, take, All}
use Rattle.trap_siphon.specs.Sets.{has}
use Rattle.trap_siphon.proofs.siphons.touches.Given as goal

abbrev pub invariant-loop-cell : goal.invariant-loop-cell
invariant-loop-cell l = All (λ c. has l.set c.at ≡ false) (take l.cell-index l.cell-items)
