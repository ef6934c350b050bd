-- The forms of a command line.
use Rattle.std.specs.Prelude.{ℕ, ◌+◌, ◌-◌, ◌*◌, Bool, ◌&&◌, nat_le, if◌then◌else◌, List, [], ◌∷◌, length, take, drop, codes, bytes_eq, Option, Some, None}
use Rattle.pnml_inputs.specs.declared.inputs.Role.{Role}
use Rattle.pnml_inputs.specs.declared.inputs.Role.TheVariants.{Net, Formula, Cert}
use Rattle.answers.specs.declared.commands.Command.{Command}
use Rattle.answers.specs.declared.commands.Command.TheVariants.{Canon, Check}

-- all commands
abbrev pub commands : List Command
commands = Canon ∷ Check ∷ []

-- the word of a command
abbrev pub word_of : Command → List ℕ
word_of Canon = codes "canon"
word_of Check = codes "check"

-- its files, in order
abbrev pub roles_of : Command → List Role
roles_of Canon = Net ∷ []
roles_of Check = Net ∷ Formula ∷ Cert ∷ []

-- a command line: a command, the names of its files, and how many workers it may take
pub record Form : Type 0 where
  pub command : Command
  pub names : List (List ℕ)
  pub workers : ℕ

-- the command with this word among these
abbrev pub command_among : List Command → List ℕ → Option Command
command_among [] word = None
command_among (command ∷ commands) word = if bytes_eq word (word_of command) then Some command else command_among commands word

abbrev pub command_of : List ℕ → Option Command
command_of word = command_among commands word

-- where a text has the form of a number, and it is at most 64
abbrev pub up_to_64 : Bool → ℕ → Option ℕ
up_to_64 is_number count = if is_number && nat_le count 64 then Some count else None

-- an ASCII digit, from this one on
abbrev pub is_digit_from : ℕ → ℕ → Bool
is_digit_from least c = nat_le least c && nat_le c 57

-- a number from 1 to 64 without a leading zero
abbrev pub worker_count : List ℕ → Option ℕ
worker_count [] = None
worker_count (c ∷ []) = up_to_64 (is_digit_from 49 c) (c - 48)
worker_count (c ∷ d ∷ []) = up_to_64 (is_digit_from 49 c && is_digit_from 48 d) ((c - 48) * 10 + (d - 48))
worker_count (_ ∷ _ ∷ _ ∷ _) = None

-- the words behind the names: none, for one worker, or `--workers` and a number
abbrev pub workers_of : List (List ℕ) → Option ℕ
workers_of [] = Some 1
workers_of (_ ∷ []) = None
workers_of (option ∷ number ∷ []) = if bytes_eq option (codes "--workers") then worker_count number else None
workers_of (_ ∷ _ ∷ _ ∷ _) = None

abbrev pub form_by : Command → List (List ℕ) → Option ℕ → Option Form
form_by command names None = None
form_by command names (Some workers) = Some (record { command = command; names = names; workers = workers })

-- the words behind that of a command: so many names as it has files, whatever their text, and then the workers
abbrev pub form_with : Command → List (List ℕ) → Option Form
form_with command words =
    if nat_le (length (roles_of command)) (length words)
    then form_by command (take (length (roles_of command)) words) (workers_of (drop (length (roles_of command)) words))
    else None

abbrev pub form_for : Option Command → List (List ℕ) → Option Form
form_for None words = None
form_for (Some command) words = form_with command words

abbrev pub form_of : List (List ℕ) → Option Form
form_of [] = None
form_of (word ∷ words) = form_for (command_of word) words
