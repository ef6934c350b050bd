-- The new ends are those of the arrays with the rows behind them.
use Rattle.std.proofs.Common.{rules, ◌≡◌, ◌+◌, ◌<◌, ◌^◌, [], ◌∷◌, ◌++◌, length, sum_by, ℕ, Fits, w32, arith, ap, sym, ◌∙◌}
use Rattle.pt_net.specs.declared.arrays.Head.{Head}
use Rattle.pt_net.proofs.InArrays.{ArePushed, pushed_in, pushed_is, sum_inputs, sum_outputs}
use Rattle.pt_net.proofs.arrays.PackedInstances.push.Goals as goal

pub overflow_cast-len : goal.overflow_cast-len
overflow_cast-len c =
    let total = ap (sum_by (λ t. length t.pre)) (sym c.self.view_is) ∙ sum_inputs c.self.inside.heads.items c.self.inside.inputs.items c.self.inside.outputs.items c.self.invariant in
    let few : sum_by (λ t. length t.pre) c.args.self.now + length c.args.inputs.now < 2 ^ 32 = c.requires.few_inputs in
    let len : c.len.result ≡ length c.self.inside.inputs.items = search rules in
    let low : c.len.result + length c.args.inputs.now < 2 ^ 32 = omega arith in
    search (rules, low)

pub overflow_cast-len-2 : goal.overflow_cast-len-2
overflow_cast-len-2 c =
    let total = ap (sum_by (λ t. length t.post)) (sym c.self.view_is) ∙ sum_outputs c.self.inside.heads.items c.self.inside.inputs.items c.self.inside.outputs.items c.self.invariant in
    let few : sum_by (λ t. length t.post) c.args.self.now + length c.args.outputs.now < 2 ^ 32 = c.requires.few_outputs in
    let len : c.len-2.result ≡ length c.self.inside.outputs.items = search rules in
    let low : c.len-2.result + length c.args.outputs.now < 2 ^ 32 = omega arith in
    search (rules, low)

pub invariant_of-self-2 : goal.invariant_of-self-2
invariant_of-self-2 c =
    let head : Head = record { transition = c.args.origin.transition; binding = c.args.origin.binding; inputs_end = c.len.result + length c.args.inputs.now; outputs_end = c.len-2.result + length c.args.outputs.now } in
    pushed_in c.self.inside.heads.items _ c.self.inside.inputs.items _ c.self.inside.outputs.items _ c.args.inputs.now c.args.outputs.now head c.self.invariant c.requires.inputs c.requires.outputs (record {
      heads_are = search rules;
      inputs_are = search rules;
      outputs_are = search rules;
      inputs_end = search rules;
      outputs_end = search rules;
    })

pub returns-clause-ok : goal.returns-clause-ok
returns-clause-ok c =
    let head : Head = record { transition = c.args.origin.transition; binding = c.args.origin.binding; inputs_end = c.len.result + length c.args.inputs.now; outputs_end = c.len-2.result + length c.args.outputs.now } in
    rw (← c.self.view_is) (pushed_is c.self.inside.heads.items c.push.new.self.items c.self.inside.inputs.items c.put_row.new.cells.items c.self.inside.outputs.items c.put_row-2.new.cells.items c.args.inputs.now c.args.outputs.now head c.self.invariant (record {
      heads_are = search rules;
      inputs_are = search rules;
      outputs_are = search rules;
      inputs_end = search rules;
      outputs_end = search rules;
    }))
