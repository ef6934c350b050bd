-- The outcomes of a command by kind, and the exit status of each.
use Rattle.std.specs.Prelude.{ℕ, ⊤}
use Rattle.answers.specs.declared.outcomes.Outcome.{Outcome}
use Rattle.answers.specs.declared.outcomes.Outcome.TheVariants.{Holds, Done, NotShown, Range, Refused, ReadFault, TooLong, WriteFault, Memory, Usage}

-- the whole text was written
abbrev pub IsFinal : Outcome → Type 0
IsFinal Holds = ⊤
IsFinal Done = ⊤
IsFinal NotShown = ⊤
IsFinal Range = ⊤
IsFinal Refused = ⊤
IsFinal (TooLong role) = ⊤
IsFinal ReadFault = ⊥
IsFinal WriteFault = ⊥
IsFinal Memory = ⊥
IsFinal Usage = ⊥

-- nothing was written
abbrev pub IsSilent : Outcome → Type 0
IsSilent ReadFault = ⊤
IsSilent Memory = ⊤
IsSilent Usage = ⊤
IsSilent Holds = ⊥
IsSilent Done = ⊥
IsSilent NotShown = ⊥
IsSilent Range = ⊥
IsSilent Refused = ⊥
IsSilent (TooLong role) = ⊥
IsSilent WriteFault = ⊥

-- the exit status
abbrev pub status_of : Outcome → ℕ
status_of Holds = 0
status_of Done = 0
status_of NotShown = 1
status_of Range = 1
status_of Refused = 2
status_of (TooLong role) = 2
status_of ReadFault = 3
status_of WriteFault = 3
status_of Memory = 4
status_of Usage = 5
