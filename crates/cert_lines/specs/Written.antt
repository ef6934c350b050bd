-- What a line says is said again by the line that it is written as.
use Rattle.std.specs.Prelude.{ℕ, List, None, ◌≡◌}
use Rattle.line_words.specs.Words.{behind_mark}
use Rattle.line_words.specs.declared.lines.Line.TheVariants.{Says}
use Rattle.cert_lines.specs.Statements.{line_of}
use Rattle.cert_lines.specs.Texts.{statement_text}
use Rattle.cert_lines.specs.declared.statements.Statement.{Statement}

-- the line that it is written as has no line feed
abbrev pub IsSaidAgain : Statement → Type 0
IsSaidAgain statement = (line_of (statement_text statement) ≡ Says statement) × (behind_mark 10 (statement_text statement) ≡ None)

abbrev pub WrittenLineIsRead : Type 0
WrittenLineIsRead = (line : List ℕ) (statement : Statement) → line_of line ≡ Says statement → IsSaidAgain statement
