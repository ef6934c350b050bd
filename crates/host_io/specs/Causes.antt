-- When the outside may answer that it failed.
use Rattle.std.specs.Prelude.{ℕ, ◌+◌, ◌-◌, ◌^◌, ◌≤◌, min, Bool, if◌then◌else◌, OnErr, Result}

-- a count after one more fault or call: it stands still at its greatest value
abbrev pub counted : ℕ → ℕ
counted count = min (count + 1) (2 ^ 64 - 1)

-- the count of faults after a call that failed by a fault, or didn't
abbrev pub faults_after : Bool → ℕ → ℕ
faults_after failed faults = if failed then counted faults else faults

-- a count rose: it is greater than before, or stands at its greatest value
abbrev pub Rose : ℕ → ℕ → Type 0
Rose before now = counted before ≤ now

-- a count of faults never falls, and it rose where the call failed
abbrev pub HasCause : {V E : Type 0} → ℕ → ℕ → Result V E → Type 0
HasCause before now answer = (before ≤ now) × OnErr answer (Rose before now)
