use Rattle.std.proofs.Common.{◌≡◌, ℕ, ◌<◌, get_or}
use Rattle.colour_sorts.proofs.dividing.has_free.Given as goal

abbrev pub invariant-loop-block : goal.invariant-loop-block
invariant-loop-block l = (at : ℕ) → at < l.block-index → get_or l.blocks at 0 ≡ l.most → ⊥
