use Rattle.std.proofs.Common.{◌≡◌, length}
use Rattle.prefix_trees.specs.Trees.{still_open}
use Rattle.prefix_trees.proofs.opens.Opens.close.Given as goal

abbrev pub invariant-loop-count : goal.invariant-loop-count
invariant-loop-count l = still_open l.fn.self ≡ still_open l.self

abbrev pub decreases-loop-count : goal.decreases-loop-count
decreases-loop-count l = length l.self
