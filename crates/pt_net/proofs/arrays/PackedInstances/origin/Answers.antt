use Rattle.std.proofs.Common.{rules, arith, length, ap, sym, ◌∙◌, ◌≡◌, ◌<◌, vec_len}
use Rattle.pt_net.specs.InArrays.{origin_from}
use Rattle.pt_net.proofs.InArrays.{instances_count, origin_is}
use Rattle.pt_net.proofs.arrays.PackedInstances.origin.Goals as goal

pub index-requires : goal.index-requires
index-requires c =
    let count = ap length (sym c.self.view_is) ∙ instances_count c.self.inside.heads.items c.self.inside.inputs.items c.self.inside.outputs.items in
    let within = c.requires in
    let inside : c.args.instance < length c.self.inside.heads.items = omega arith in
    search (rules, inside)

pub returns : goal.returns
returns c =
    let count = ap length (sym c.self.view_is) ∙ instances_count c.self.inside.heads.items c.self.inside.inputs.items c.self.inside.outputs.items in
    let within = c.requires in
    rw (← c.self.view_is) (c.origin.ensures ∙ ap origin_from c.index.ensures ∙ origin_is c.self.inside.heads.items c.self.inside.inputs.items c.self.inside.outputs.items c.args.instance c.index.result.now (omega arith))
