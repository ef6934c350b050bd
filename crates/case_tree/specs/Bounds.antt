-- This project's own. Several bounds named at once.
use Rattle.std.specs.Prelude.{ℕ, List, ◌++◌}
use Rattle.path_bounds.specs.Held.{Held}

abbrev pub with_lowers : List (ℕ × ℕ) → Held → Held
with_lowers bounds held = record held { lowers = held.lowers ++ bounds }

abbrev pub with_uppers : List (ℕ × ℕ) → Held → Held
with_uppers bounds held = record held { uppers = held.uppers ++ bounds }
