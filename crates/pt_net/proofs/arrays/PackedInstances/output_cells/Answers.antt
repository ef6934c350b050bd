use Rattle.std.proofs.Common.{rules, length, sum_by, ap, sym, ◌∙◌, ◌≡◌}
use Rattle.pt_net.proofs.InArrays.{sum_outputs}
use Rattle.pt_net.proofs.arrays.PackedInstances.output_cells.Goals as goal

pub returns : goal.returns
returns c =
    let total = ap (sum_by (λ t. length t.post)) (sym c.self.view_is) ∙ sum_outputs c.self.inside.heads.items c.self.inside.inputs.items c.self.inside.outputs.items c.self.invariant in
    let len : c.len.result ≡ length c.self.inside.outputs.items = search rules in
    len ∙ sym total
