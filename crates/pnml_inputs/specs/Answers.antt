-- What reading files in pieces comes to, where a reader's answers are a relation.
use Rattle.std.specs.Prelude.{◌≡◌, ℕ, ◌^◌, ◌≤◌, ◌⊎◌, List, length, Option, Some, None, Result, Ok, Err, Vec, ⊤}
use Rattle.host_io.specs.Causes.{Rose}
use Rattle.wide_sums.specs.declared.refusals.Memory.{Memory}
use Rattle.pnml_inputs.specs.Reading.{Reading, unheld, too_long, whole}
use Rattle.pnml_inputs.specs.declared.inputs.Stop.{Stop}
use Rattle.pnml_inputs.specs.declared.inputs.Stop.TheVariants as stop

-- what a call answers that hands what is read to a reader: the reader's answer to exactly what the reading comes to, but
-- that a fault may come where the count of faults rose, and want of memory at any time
abbrev pub IsAnsweredBy : {V A : Type 0} → (A → V → Type 0) → Reading A → ℕ → ℕ → Result V Stop → Type 0
IsAnsweredBy answers reading before now (Ok value) = (a : _) × (reading ≡ whole a) × answers a value
IsAnsweredBy answers reading before now (Err stop.Fault) = Rose before now ⊎ (reading ≡ unheld)
IsAnsweredBy answers reading before now (Err (stop.TooLong role)) = reading ≡ too_long role
IsAnsweredBy answers reading before now (Err stop.Memory) = ⊤

-- where nothing is told, a value is still the answer to something, and a fault comes only where the count of faults rose
abbrev pub IsCausedBy : {V A : Type 0} → (A → V → Type 0) → ℕ → ℕ → Result V Stop → Type 0
IsCausedBy answers before now (Ok value) = (a : _) × answers a value
IsCausedBy answers before now (Err stop.Fault) = Rose before now
IsCausedBy answers before now (Err (stop.TooLong role)) = ⊤
IsCausedBy answers before now (Err stop.Memory) = ⊤

-- what a call answers that reads by what may be told, with the counts of faults before it and after it
abbrev pub ReadsBy : {T V A : Type 0} → (A → V → Type 0) → Option T → (T → Reading A) → ℕ → ℕ → Result V Stop → Type 0
ReadsBy answers None reading before now answer = IsCausedBy answers before now answer
ReadsBy answers (Some told) reading before now answer = IsAnsweredBy answers (reading told) before now answer

-- the answer to bytes within the limit
abbrev pub Limited : {V : Type 0} → (List ℕ → V → Type 0) → List ℕ → V → Type 0
Limited answers bytes value = (length bytes ≤ 2 ^ 26) × answers bytes value

-- no fault is hidden: where an answer tells of the bytes of files, the count of faults stands still
abbrev pub IsQuiet : {V : Type 0} → ℕ → ℕ → Result V Stop → Type 0
IsQuiet before now (Ok value) = now ≡ before
IsQuiet before now (Err stop.Fault) = ⊤
IsQuiet before now (Err (stop.TooLong role)) = now ≡ before
IsQuiet before now (Err stop.Memory) = ⊤

-- what is kept of bytes: the bytes themselves
abbrev pub IsBytes : {Z : Type 0} → List ℕ → Vec ℕ Z → Type 0
IsBytes b bytes = bytes.items ≡ b

-- the same, or want of memory
abbrev pub IsText : {Z : Type 0} → List ℕ → Result (Vec ℕ Z) Memory → Type 0
IsText b (Ok bytes) = IsBytes b bytes
IsText b (Err refused) = ⊤
