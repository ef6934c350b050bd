use Rattle.std.proofs.Common.{refl}
use Rattle.net_firing.proofs.laws.small_instances_hold.Goals as goal

pub returns : goal.returns
returns c = record { pairs_of_two = refl; row = refl; takes_one = refl; first_fault = refl; no_fault = refl; of_file = refl; of_dots = refl }
