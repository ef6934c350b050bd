-- Faults of property files.
use Rattle.std.specs.Prelude.{◌≡◌, ℕ, List, slice_get, Some}
use Rattle.std.specs.Bool.{⊤}
use Rattle.doc_tree.specs.declared.faults.Fault.{Fault}
use Rattle.net_elements.specs.declared.faults.ReadFault.{ReadFault}
use Rattle.net_elements.specs.declared.faults.ReadFault.TheVariants as read
use Rattle.mcc_model.specs.declared.faults.FormulaFault.{FormulaFault}
use Rattle.mcc_model.specs.declared.faults.FormulaFault.TheVariants.{Structure, NoProperty, NotReachability, UnknownNode, Memory}

-- the fault of a walk over a tree
abbrev pub of_read : ReadFault → FormulaFault
of_read (read.Structure at kind) = Structure at kind
of_read read.Memory = Memory

-- the first broken rule of a property file, unless memory ran out
abbrev pub IsFirstRule : List (ℕ × Fault) → FormulaFault → Type 0
IsFirstRule rules (Structure at kind) = slice_get rules 0 ≡ Some (at, kind)
IsFirstRule rules NoProperty = ⊥
IsFirstRule rules (NotReachability at) = ⊥
IsFirstRule rules (UnknownNode at) = ⊥
IsFirstRule rules Memory = ⊤

-- the first fault of a formula, unless memory ran out
abbrev pub IsFirstFault : List FormulaFault → FormulaFault → Type 0
IsFirstFault faults Memory = ⊤
IsFirstFault faults fault = slice_get faults 0 ≡ Some fault
