-- The steps of a command: each refuses a file, or reaches a value for the next.
use Rattle.std.specs.Prelude.{ℕ, List, ⊤}
use Rattle.answers.specs.Refusals.{Refused, refusal_line}
use Rattle.answers.specs.declared.stages.Stage.{Stage}
use Rattle.answers.specs.declared.stages.Stage.TheVariants as stage
use Rattle.answers.specs.declared.verdicts.Verdict.{Verdict}
use Rattle.answers.specs.declared.verdicts.Verdict.TheVariants as verdict

-- a step, and the one behind it where a value is reached
abbrev pub and_then : {A B : Type 0} → Stage A → (A → Stage B) → Stage B
and_then (stage.Refused refusal) next = stage.Refused refusal
and_then (stage.Reached a) next = next a

-- where a value is reached
abbrev pub IfReached : {A : Type 0} → Stage A → (A → Type 0) → Type 0
IfReached (stage.Refused refusal) fact = ⊤
IfReached (stage.Reached a) fact = fact a

-- what is said of a file that isn't taken, and its line
abbrev pub reply_to_refusal : Refused → Verdict × List ℕ
reply_to_refusal refusal = (verdict.Refused, refusal_line refusal.role refusal.words)

-- the reply of a chain of steps, by the reply to the value at its end
abbrev pub reply_by : {A : Type 0} → (A → Verdict × List ℕ) → Stage A → Verdict × List ℕ
reply_by reply (stage.Refused refusal) = reply_to_refusal refusal
reply_by reply (stage.Reached a) = reply a
