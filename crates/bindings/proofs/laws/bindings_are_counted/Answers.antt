use Rattle.bindings.proofs.Digits.{length-bindings}
use Rattle.bindings.proofs.laws.bindings_are_counted.Goals as goal

pub returns : goal.returns
returns c = length-bindings
