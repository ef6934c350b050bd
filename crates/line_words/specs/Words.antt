-- How bytes are cut into lines, lines into words, and words at a mark.
use Rattle.std.specs.Prelude.{ℕ, Bool, true, false, ◌||◌, ◌==◌, List, [], ◌∷◌, filter, Option, None, Some, if◌then◌else◌, ◌≡◌}
use Rattle.std.specs.Bool.{⊤}

-- white: space, tab, line feed and carriage return
abbrev pub is_white : ℕ → Bool
is_white c = c == 32 || c == 9 || c == 10 || c == 13

-- a byte more at the front of the first piece
abbrev pub longer : ℕ → List (List ℕ) → List (List ℕ)
longer c [] = (c ∷ []) ∷ []
longer c (piece ∷ pieces) = (c ∷ piece) ∷ pieces

-- the pieces between the bytes that pass the test
abbrev pub pieces : (ℕ → Bool) → List ℕ → List (List ℕ)
pieces test [] = [] ∷ []
pieces test (c ∷ cs) = if test c then [] ∷ pieces test cs else longer c (pieces test cs)

abbrev pub is_some_text : List ℕ → Bool
is_some_text [] = false
is_some_text (c ∷ cs) = true

-- the words of a line: the pieces between white that have a byte
abbrev pub words_of : List ℕ → List (List ℕ)
words_of line = filter is_some_text (pieces is_white line)

-- a list of pieces without an empty last one
abbrev pub if_some_text : List ℕ → List (List ℕ)
if_some_text [] = []
if_some_text (c ∷ cs) = (c ∷ cs) ∷ []

abbrev pub without_last_empty : List (List ℕ) → List (List ℕ)
without_last_empty [] = []
without_last_empty (piece ∷ []) = if_some_text piece
without_last_empty (piece ∷ next ∷ later) = piece ∷ without_last_empty (next ∷ later)

-- the lines of a file: the pieces between line feeds, but for an empty last one
abbrev pub lines_of : List ℕ → List (List ℕ)
lines_of bytes = without_last_empty (pieces (λ c. c == 10) bytes)

-- what stands before the first mark, and all where there is none
abbrev pub before_mark : ℕ → List ℕ → List ℕ
before_mark mark [] = []
before_mark mark (c ∷ cs) = if c == mark then [] else c ∷ before_mark mark cs

-- what stands behind the first mark, where there is one
abbrev pub behind_mark : ℕ → List ℕ → Option (List ℕ)
behind_mark mark [] = None
behind_mark mark (c ∷ cs) = if c == mark then Some cs else behind_mark mark cs

-- the first byte, where there is one, isn't white
abbrev pub IsDark : List ℕ → Type 0
IsDark [] = ⊤
IsDark (c ∷ cs) = is_white c ≡ false
