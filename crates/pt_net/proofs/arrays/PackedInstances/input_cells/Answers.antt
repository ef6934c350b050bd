use Rattle.std.proofs.Common.{rules, length, sum_by, ap, sym, ◌∙◌, ◌≡◌}
use Rattle.pt_net.proofs.InArrays.{sum_inputs}
use Rattle.pt_net.proofs.arrays.PackedInstances.input_cells.Goals as goal

pub returns : goal.returns
returns c =
    let total = ap (sum_by (λ t. length t.pre)) (sym c.self.view_is) ∙ sum_inputs c.self.inside.heads.items c.self.inside.inputs.items c.self.inside.outputs.items c.self.invariant in
    let len : c.len.result ≡ length c.self.inside.inputs.items = search rules in
    len ∙ sym total
