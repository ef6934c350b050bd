-- Why a command line has no text.
use Rattle.std.specs.Prelude.{◌≡◌, ℕ, ◌⊎◌, List, Option, Some, None, ⊤, IsSome}
use Rattle.host_io.specs.Causes.{Rose}
use Rattle.host_io.specs.Held.{Held}
use Rattle.answers.specs.Forms.{Form, form_of}
use Rattle.commands.specs.Answers.{IsUnheldFor, IsUnread}
use Rattle.commands.specs.declared.running.Silence.{Silence}
use Rattle.commands.specs.declared.running.Silence.TheVariants.{Usage, ReadFault, Memory}

-- a file of the form can't be read: the count of faults rose, or it is told that a name isn't held before which no file
-- is too long
abbrev pub IsUnreadFor : Form → Option Held → Type 0
IsUnreadFor form None = ⊥
IsUnreadFor form (Some held) = IsUnheldFor (Some form) held

-- with this form
abbrev pub Silences : Form → Option Held → ℕ → ℕ → Silence → Type 0
Silences form held before now Usage = ⊥
Silences form held before now ReadFault = Rose before now ⊎ IsUnreadFor form held
Silences form held before now Memory = ⊤

-- with these words
abbrev pub SilencesWords : List (List ℕ) → Option Held → ℕ → ℕ → Silence → Type 0
SilencesWords words held before now Usage = form_of words ≡ None
SilencesWords words held before now ReadFault = IsSome (form_of words) × (Rose before now ⊎ IsUnread words held)
SilencesWords words held before now Memory = IsSome (form_of words)
