use Rattle.std.proofs.Common.{rules, length, ap, sym, ◌∙◌, ◌≡◌}
use Rattle.pt_net.proofs.InArrays.{instances_count}
use Rattle.pt_net.proofs.arrays.PackedInstances.count.Goals as goal

pub returns : goal.returns
returns c =
    let len : c.len.result ≡ length c.self.inside.heads.items = search rules in
    len ∙ sym (ap length (sym c.self.view_is) ∙ instances_count c.self.inside.heads.items c.self.inside.inputs.items c.self.inside.outputs.items)
