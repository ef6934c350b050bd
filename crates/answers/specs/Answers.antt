-- The answer of a command by what reading its files comes to.
use Rattle.std.specs.Prelude.{◌≡◌, ℕ, List, [], ◌∷◌, codes}
use Rattle.host_io.specs.Held.{Held}
use Rattle.pnml_inputs.specs.Reading.{Reading, unheld, too_long, whole, and_then, file_reading}
use Rattle.pnml_inputs.specs.declared.inputs.Role.{Role}
use Rattle.answers.specs.Refusals.{refusal_line}
use Rattle.answers.specs.Verdicts.{outcome_of}
use Rattle.answers.specs.declared.verdicts.Verdict.{Verdict}
use Rattle.answers.specs.declared.outcomes.Outcome.{Outcome}
use Rattle.answers.specs.declared.outcomes.Outcome.TheVariants.{ReadFault, TooLong}

-- what reading the files of these roles comes to, in order
abbrev pub readings : List Role → List (List ℕ) → Held → Reading (List (List ℕ))
readings [] names held = whole []
readings (role ∷ roles) [] held = unheld
readings (role ∷ roles) (name ∷ names) held =
    and_then (file_reading role name held) (λ b. and_then (readings roles names held) (λ bs. whole (b ∷ bs)))

-- the answer of a command to what reading its files comes to, by what it says of files that are read whole, and in which text
abbrev pub IsAnswerRead : {A : Type 0} → (A → Verdict → List ℕ → Type 0) → Reading A → Outcome → List ℕ → Type 0
IsAnswerRead IsReply unheld outcome text = (outcome ≡ ReadFault) × (text ≡ [])
IsAnswerRead IsReply (too_long role) outcome text = (outcome ≡ TooLong role) × (text ≡ refusal_line role (codes "too-long"))
IsAnswerRead IsReply (whole files) outcome text = (verdict : Verdict) × (outcome ≡ outcome_of verdict) × IsReply files verdict text
