-- How a program ends that runs a command line.
use Rattle.std.specs.Prelude.{◌≡◌, ℕ, ◌⊎◌, ◌↔◌, List, Option, None, IfSome}
use Rattle.host_io.specs.Causes.{Rose}
use Rattle.host_io.specs.Held.{Held}
use Rattle.answers.specs.Forms.{form_of}
use Rattle.answers.specs.Outcomes.{IsFinal, IsSilent}
use Rattle.answers.specs.declared.outcomes.Outcome.{Outcome}
use Rattle.answers.specs.declared.outcomes.Outcome.TheVariants.{Holds, Memory, ReadFault, Usage, WriteFault}
use Rattle.commands.specs.Answers.{IsCut, IsUnread, IsWritten, ShowInvariant}

-- the counts of faults of the files and of the sink, and what was written, where it is told
pub record Outside : Type 0 where
  pub read_faults : ℕ
  pub write_faults : ℕ
  pub written : Option (List ℕ)

-- the words were run, from one state of the outside to another, and this is the outcome
pub record HasRun (words : List (List ℕ)) (held : Option Held) (old new : Outside) (outcome : Outcome) : Type 0 where
  pub usage : (outcome ≡ Usage) ↔ (form_of words ≡ None)
  pub answered : IfSome held (λ told. IsFinal outcome → IsWritten words told outcome old.written new.written)
  pub prefix : IfSome held (λ told. outcome ≡ WriteFault → IsCut words told old.written new.written)
  pub silent : IsSilent outcome → new.written ≡ old.written
  pub read_fault : outcome ≡ ReadFault → Rose old.read_faults new.read_faults ⊎ IsUnread words held
  pub write_fault : outcome ≡ WriteFault → Rose old.write_faults new.write_faults
  pub complete : IfSome held (λ told. ¬ (Rose old.read_faults new.read_faults) → ¬ (Rose old.write_faults new.write_faults)
      → (outcome ≡ Memory) ⊎ IsWritten words told outcome old.written new.written)
  pub sound : IfSome held (λ told. outcome ≡ Holds → ShowInvariant words told)
