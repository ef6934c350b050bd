use Rattle.bindings.proofs.Digits.{digits-stand, number-stands}
use Rattle.bindings.proofs.laws.bindings_are_numbered.Goals as goal

pub returns-clause-digits : goal.returns-clause-digits
returns-clause-digits c = digits-stand

pub returns-clause-number : goal.returns-clause-number
returns-clause-number c = number-stands
