-- What a line says: it is passed over where it has no word or its first word begins with `#`, and else it has a form in UTF-8.
use Rattle.std.specs.Prelude.{ℕ, Bool, ◌==◌, List, [], ◌∷◌, slice_index, Option, None, Some, if◌then◌else◌}
use Rattle.std.specs.Str.{is_utf8}
use Rattle.line_words.specs.Words.{words_of}
use Rattle.line_words.specs.declared.lines.Line.{Line}
use Rattle.line_words.specs.declared.lines.Line.TheVariants.{Passed, Faulty, Says}

abbrev pub line_with : {S : Type 0} → Option S → Line S
line_with None = Faulty
line_with (Some form) = Says form

-- `meaning` is what a first word and the words after it say
abbrev pub line_from : {S : Type 0} → (List ℕ → List (List ℕ) → Option S) → Bool → List (List ℕ) → Line S
line_from meaning is_text [] = Passed
line_from meaning is_text (word ∷ words) =
    if slice_index word 0 == 35 then Passed else
    if is_text then line_with (meaning word words) else Faulty

abbrev pub line_as : {S : Type 0} → (List ℕ → List (List ℕ) → Option S) → List ℕ → Line S
line_as meaning bytes = line_from meaning (is_utf8 bytes) (words_of bytes)
