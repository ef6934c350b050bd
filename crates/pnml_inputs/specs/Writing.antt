-- What stands in a sink after a text was put into it.
use Rattle.std.specs.Prelude.{ℕ, ◌<◌, List, length, take, Option}
use Rattle.std.specs.Io.KnownBytes.{Appends}

-- the bytes taken before, and after them the first bytes of the text but not all; where nothing is told, this claims
-- nothing of them
abbrev pub AppendsPrefix : Option (List ℕ) → Option (List ℕ) → List ℕ → Type 0
AppendsPrefix old new text = (n : ℕ) × (n < length text) × Appends old new (take n text)
