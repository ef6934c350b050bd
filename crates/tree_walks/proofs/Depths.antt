-- Every branch of the tests' path is one deeper.
use Rattle.std.proofs.Common.{◌≡◌, ℕ, zero, suc, ◌+◌, ◌<◌, [], length, slice_index_or, arith}
use Rattle.std.proofs.lemmas.List.{get_or-replicate}
use Rattle.tree_walks.specs.Levels.{twice}

pub twice_is : (depth node round branch d : ℕ) → round < length (twice depth node) → branch < node → slice_index_or (slice_index_or (twice depth node) round []) branch d ≡ depth + 1
twice_is depth node zero branch d here inside = get_or-replicate node branch (depth + 1) d inside
twice_is depth node (suc zero) branch d here inside = get_or-replicate node branch (depth + 1) d inside
twice_is depth node (suc (suc round)) branch d here inside = absurd (omega arith)
