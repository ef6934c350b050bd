use Rattle.bindings.proofs.Digits.{number-digits, spelled}
use Rattle.bindings.proofs.laws.numbers_and_bindings_are_inverse.Goals as goal

pub returns-clause-number : goal.returns-clause-number
returns-clause-number c = number-digits

pub returns-clause-binding : goal.returns-clause-binding
returns-clause-binding c = λ sizes binding known. (spelled sizes binding known).same

pub returns-clause-below : goal.returns-clause-below
returns-clause-below c = λ sizes binding known. (spelled sizes binding known).below
