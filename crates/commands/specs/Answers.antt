-- The answer to a command line, where it is told which names are held.
use Rattle.std.specs.Prelude.{◌≡◌, ℕ, ◌↔◌, List, [], Option, Some, None}
use Rattle.std.specs.Io.KnownBytes.{Appends}
use Rattle.host_io.specs.Held.{Held}
use Rattle.pnml_inputs.specs.Reading.{Reading, unheld, too_long, whole}
use Rattle.pnml_inputs.specs.Writing.{AppendsPrefix}
use Rattle.pnml_inputs.specs.declared.inputs.Role.{Role}
use Rattle.answers.specs.Answers.{IsAnswerRead, readings}
use Rattle.answers.specs.Forms.{Form, form_of, roles_of}
use Rattle.answers.specs.declared.outcomes.Outcome.{Outcome}
use Rattle.answers.specs.declared.outcomes.Outcome.TheVariants.{Holds, TooLong, Usage}
use Rattle.commands.specs.Replies.{IsReply, Shows}

-- what reading the files of a form comes to
abbrev pub reading_for : Form → Held → Reading (List (List ℕ))
reading_for form held = readings (roles_of form.command) form.names held

abbrev pub IsAnswerTo : Option Form → Held → Outcome → List ℕ → Type 0
IsAnswerTo None held outcome text = (outcome ≡ Usage) × (text ≡ [])
IsAnswerTo (Some form) held outcome text = IsAnswerRead (IsReply form.command) (reading_for form held) outcome text

-- the outcome and the text of the command line
abbrev pub IsAnswer : List (List ℕ) → Held → Outcome → List ℕ → Type 0
IsAnswer words held outcome text = IsAnswerTo (form_of words) held outcome text

-- the files of a form are read up to one that is too long, or up to one that isn't held
abbrev pub IsTooLongFor : Option Form → Held → Role → Type 0
IsTooLongFor None held role = ⊥
IsTooLongFor (Some form) held role = reading_for form held ≡ too_long role

abbrev pub IsUnheldFor : Option Form → Held → Type 0
IsUnheldFor None held = ⊥
IsUnheldFor (Some form) held = reading_for form held ≡ unheld

abbrev pub IsTooLong : List (List ℕ) → Held → Role → Type 0
IsTooLong words held role = IsTooLongFor (form_of words) held role

-- where it is told which names are held, the first file that can't be read whole has a name that isn't
abbrev pub IsUnread : List (List ℕ) → Option Held → Type 0
IsUnread words None = ⊥
IsUnread words (Some held) = IsUnheldFor (form_of words) held

-- the files are read whole, and what the command shows of them is so
abbrev pub ShowsRead : (List (List ℕ) → Type 0) → Reading (List (List ℕ)) → Type 0
ShowsRead shows unheld = ⊥
ShowsRead shows (too_long role) = ⊥
ShowsRead shows (whole files) = shows files

-- the words are those of `check`, and its files are the canonical texts of a net, a property and a certificate, and the
-- property's invariant is true in every marking that firing reaches from the net's initial marking
abbrev pub ShowInvariantFor : Option Form → Held → Type 0
ShowInvariantFor None held = ⊥
ShowInvariantFor (Some form) held = ShowsRead (Shows form.command) (reading_for form held)

abbrev pub ShowInvariant : List (List ℕ) → Held → Type 0
ShowInvariant words held = ShowInvariantFor (form_of words) held

-- the whole text of an answer was written, and this is its outcome
pub record IsWritten (words : List (List ℕ)) (held : Held) (outcome : Outcome) (old new : Option (List ℕ)) : Type 0 where
  pub text : List ℕ
  pub answer : IsAnswer words held outcome text
  pub written : Appends old new text

-- the first bytes of the text of an answer were written, but not all
pub record IsCut (words : List (List ℕ)) (held : Held) (old new : Option (List ℕ)) : Type 0 where
  pub outcome : Outcome
  pub text : List ℕ
  pub answer : IsAnswer words held outcome text
  pub written : AppendsPrefix old new text

-- the answer Holds comes only where the words are those of `check` and the invariant holds
abbrev pub HoldsIsInvariant : Type 0
HoldsIsInvariant = (words : List (List ℕ)) (held : Held) (outcome : Outcome) (text : List ℕ) → IsAnswer words held outcome text
    → outcome ≡ Holds → ShowInvariant words held

-- the outcome is TooLong of a role exactly where the reading stops at that role
abbrev pub TooLongIsTold : Type 0
TooLongIsTold = (words : List (List ℕ)) (held : Held) (outcome : Outcome) (text : List ℕ) → IsAnswer words held outcome text
    → (role : Role) → (outcome ≡ TooLong role) ↔ IsTooLong words held role
