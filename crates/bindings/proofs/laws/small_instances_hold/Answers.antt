use Rattle.std.proofs.Common.{refl}
use Rattle.bindings.proofs.laws.small_instances_hold.Goals as goal

pub returns : goal.returns
returns c = record { none = refl; one = refl; six = refl; without = refl; without_first = refl; counted = refl; last = refl; middle = refl; back = refl }
