-- What contracts see of the files and the output of the system.
use Rattle.std.specs.Prelude.{ℕ, Bool, List, Option, Some, None}

-- whether a file is current, the bytes of it that are still to read, where the runtime tells them, and how many faults
-- there were
pub record HostState : Type 0 where
  pub ready : Bool
  pub left : Option (List ℕ)
  pub faults : ℕ

-- what a file tells that may be there
abbrev pub left_in : {F : Type 0} → (F → Option (List ℕ)) → Option F → Option (List ℕ)
left_in remaining None = None
left_in remaining (Some file) = remaining file

-- the bytes that the writer took, where it tells them, and how many faults there were
pub record SinkSeen : Type 0 where
  pub written : Option (List ℕ)
  pub faults : ℕ
