-- For told files each command line has an answer, and of all commands but `check` only one.
use Rattle.std.specs.Prelude.{◌≡◌, ℕ, List, Option, Some, None, ⊤}
use Rattle.host_io.specs.Held.{Held}
use Rattle.answers.specs.Forms.{Form, form_of}
use Rattle.answers.specs.declared.commands.Command.{Command}
use Rattle.answers.specs.declared.commands.Command.TheVariants.{Canon, Check}
use Rattle.answers.specs.declared.outcomes.Outcome.{Outcome}
use Rattle.commands.specs.Answers.{IsAnswer}

-- `check` may still say `not-yet` of any files
abbrev pub IsDetermined : Command → Type 0
IsDetermined Canon = ⊤
IsDetermined Check = ⊥

abbrev pub IsDeterminedFor : Option Form → Type 0
IsDeterminedFor None = ⊤
IsDeterminedFor (Some form) = IsDetermined form.command

abbrev pub AnswersAreOne : Type 0
AnswersAreOne = (words : List (List ℕ)) (held : Held) (outcome other : Outcome) (text others : List ℕ) → IsDeterminedFor (form_of words)
    → IsAnswer words held outcome text → IsAnswer words held other others → (outcome ≡ other) × (text ≡ others)

abbrev pub AnswersExist : Type 0
AnswersExist = (words : List (List ℕ)) (held : Held) → (outcome : Outcome) × (text : List ℕ) × IsAnswer words held outcome text
