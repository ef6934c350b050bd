use Rattle.std.proofs.Common.{rules, refl, ap, ◌∙◌, ◌≡◌, []}
use Rattle.pt_net.proofs.InArrays.{instances_none}
use Rattle.pt_net.proofs.arrays.PackedInstances.with_capacity.Goals as goal

pub returns : goal.returns
returns c = instances_none c.in_ok-with_capacity.field-0.items c.in_ok-with_capacity-2.field-0.items c.in_ok-with_capacity-3.field-0.items (search rules)
