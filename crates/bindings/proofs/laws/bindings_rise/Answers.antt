use Rattle.bindings.proofs.Rising.{bindings-rise}
use Rattle.bindings.proofs.laws.bindings_rise.Goals as goal

pub returns : goal.returns
returns c = bindings-rise
