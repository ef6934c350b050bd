use Rattle.bindings.proofs.Digits.{found-binds}
use Rattle.bindings.proofs.laws.bindings_are_in_range.Goals as goal

pub returns : goal.returns
returns c = found-binds
