-- A reader of lines that was fed bytes.
use Rattle.std.specs.Prelude.{ℕ, List, ◌++◌, Option, None, Some, Result, Err}
use Rattle.line_words.specs.Words.{lines_of}

-- whatever is still to come, what follows for the taker, which has all lines before the line of this number, is what all
-- bytes come to; a reader that has refused has the fault of all bytes that begin so
abbrev pub StandsFor : {T V E : Type 0} → (T → ℕ → List (List ℕ) → Result V E → Type 0) → (List (List ℕ) → Result V E → Type 0)
    → T → ℕ → List ℕ → Option E → List ℕ → Type 0
StandsFor {T} {V} {E} follows answers taker number rest None bytes =
    (more : List ℕ) (r : Result V E) → follows taker number (lines_of (rest ++ more)) r → answers (lines_of (bytes ++ more)) r
StandsFor follows answers taker number rest (Some fault) bytes = (more : List ℕ) → answers (lines_of (bytes ++ more)) (Err fault)
