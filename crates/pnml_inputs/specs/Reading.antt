-- What reading the files of a command comes to, where it is told which names are held.
use Rattle.std.specs.Prelude.{◌≡◌, ℕ, ◌^◌, ◌⊎◌, if◌then◌else◌, nat_le, List, length, Option, Some, None, Result, Ok, Err, ⊤}
use Rattle.host_io.specs.Causes.{Rose}
use Rattle.host_io.specs.Held.{Held, bytes_of}
use Rattle.pnml_inputs.specs.Texts.{Texts}
use Rattle.pnml_inputs.specs.declared.inputs.Role.{Role}
use Rattle.pnml_inputs.specs.declared.inputs.Role.TheVariants.{Net, Formula, Cert}
use Rattle.pnml_inputs.specs.declared.inputs.Stop.{Stop}
use Rattle.pnml_inputs.specs.declared.inputs.Stop.TheVariants.{Fault, TooLong, Memory}

-- files as they are read in order: the first that isn't read whole decides, since its name isn't held, or since it
-- has more bytes than the limit. Else all are read
pub data Reading (A : Type 0) : Type 0 where
  unheld : Reading A
  too_long : Role → Reading A
  whole : A → Reading A

-- the bytes of one file: its limit is 2 ^ 26 = 67,108,864
abbrev pub within_limit : Role → List ℕ → Reading (List ℕ)
within_limit role bytes = if nat_le (length bytes) (2 ^ 26) then whole bytes else too_long role

abbrev pub found_within_limit : Role → Option (List ℕ) → Reading (List ℕ)
found_within_limit role None = unheld
found_within_limit role (Some bytes) = within_limit role bytes

-- one file
abbrev pub file_reading : Role → List ℕ → Held → Reading (List ℕ)
file_reading role name held = found_within_limit role (bytes_of held name)

-- a file, and the ones after it where it is read whole
abbrev pub and_then : {A B : Type 0} → Reading A → (A → Reading B) → Reading B
and_then unheld rest = unheld
and_then (too_long role) rest = too_long role
and_then (whole a) rest = rest a

-- the net, the formula and the certificate, in this order
abbrev pub inputs_reading : List ℕ → List ℕ → List ℕ → Held → Reading Texts
inputs_reading net_name formula_name certificate_name held =
    and_then (file_reading Net net_name held) (λ net.
    and_then (file_reading Formula formula_name held) (λ formula.
    and_then (file_reading Cert certificate_name held) (λ certificate.
    whole (record { net = net; formula = formula; certificate = certificate }))))

-- what a call answers, whose values are seen by `view`: exactly what the reading comes to, but that a fault may come
-- where the count of faults rose, and want of memory at any time
abbrev pub IsAnswered : {V A : Type 0} → (V → A) → Reading A → ℕ → ℕ → Result V Stop → Type 0
IsAnswered view reading before now (Ok value) = reading ≡ whole (view value)
IsAnswered view reading before now (Err Fault) = Rose before now ⊎ (reading ≡ unheld)
IsAnswered view reading before now (Err (TooLong role)) = reading ≡ too_long role
IsAnswered view reading before now (Err Memory) = ⊤

-- why a file whose length doesn't matter can't be read further
abbrev pub IsBroken : ℕ → ℕ → Stop → Type 0
IsBroken before now Fault = Rose before now
IsBroken before now (TooLong role) = ⊥
IsBroken before now Memory = ⊤

-- where nothing is told, a fault comes only where the count of faults rose
abbrev pub IsCaused : {V : Type 0} → ℕ → ℕ → Result V Stop → Type 0
IsCaused before now (Ok value) = ⊤
IsCaused before now (Err Fault) = Rose before now
IsCaused before now (Err (TooLong role)) = ⊤
IsCaused before now (Err Memory) = ⊤

-- what a call answers that reads by what may be told, with the counts of faults before it and after it
abbrev pub Reads : {T V A : Type 0} → (V → A) → Option T → (T → Reading A) → ℕ → ℕ → Result V Stop → Type 0
Reads view None reading before now answer = IsCaused before now answer
Reads view (Some told) reading before now answer = IsAnswered view (reading told) before now answer
