-- A path that only knows how deep it is, for tests: each node's branches are walked twice, and no node is visited after so many.
use Rattle.std.specs.Prelude.{ℕ, zero, suc, ◌+◌, List, [], ◌∷◌, replicate, nat_lt, Option, Some, None, if◌then◌else◌}

-- the depths before this one, the nearest first
abbrev pub depths_below : ℕ → List ℕ
depths_below zero = []
depths_below (suc depth) = depth ∷ depths_below depth

abbrev pub stop_after : ℕ → ℕ → ℕ → Option ℕ
stop_after done depth node = if nat_lt done 40 then None else Some depth

abbrev pub one_more : ℕ → ℕ → ℕ → ℕ
one_more done depth node = done + 1

abbrev pub twice : ℕ → ℕ → List (List ℕ)
twice depth node = replicate node (depth + 1) ∷ replicate node (depth + 1) ∷ []
