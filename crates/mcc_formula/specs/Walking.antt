-- What a walk over a formula finds: no fault, or the first one.
use Rattle.std.specs.Prelude.{◌≡◌, List, [], slice_get, Some, Result, Ok, Err}
use Rattle.mcc_model.specs.declared.faults.FormulaFault.{FormulaFault}

abbrev pub Finds : Result Unit FormulaFault → List FormulaFault → Type 0
Finds (Ok _) faults = faults ≡ []
Finds (Err fault) faults = slice_get faults 0 ≡ Some fault
