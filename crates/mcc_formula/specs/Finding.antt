-- The number of a property by its id.
use Rattle.std.specs.Prelude.{◌≡◌, ℕ, List, None, Some, Result, Ok, Err}
use Rattle.name_tables.specs.Numbering.{number_in}
use Rattle.mcc_model.specs.declared.faults.FormulaFault.{FormulaFault}
use Rattle.mcc_model.specs.declared.faults.FormulaFault.TheVariants.{NoProperty}

abbrev pub IsFound : List (List ℕ) → List ℕ → Result ℕ FormulaFault → Type 0
IsFound ids id (Ok at) = number_in ids id ≡ Some at
IsFound ids id (Err fault) = (fault ≡ NoProperty) × (number_in ids id ≡ None)
