-- What was put so far and the next row are a part of all rows.
use Rattle.std.proofs.Common.{arith, ap, length, sum_by, take, ◌≡◌, ◌∙◌, ◌+◌, ◌<◌, ◌^◌, ◌≤◌, get_or, List}
use Rattle.std.proofs.lemmas.List.Sums.{sum_by_more_le}
use Rattle.pt_net.specs.declared.instances.Instance.{Instance}
use Rattle.pt_net.specs.Systems.{NetSystem}
use Rattle.pt_net.proofs.nets.PtNet.new.Goals as goal

pub push-requires-clause-few_inputs : goal.push-requires-clause-few_inputs
push-requires-clause-few_inputs c =
    let xs = c.as_slice-instance-items.result.now in
    let item = c.instance-item.result in
    let sum = ap (λ (n : NetSystem). sum_by (λ t. length t.pre) n.instances) c.loop-instance.invariant in
    let here = ap (λ (t : Instance). length t.pre) c.instance-item.is in
    let cells = ap length c.cells.ensures.cells in
    let part = sum_by_more_le (λ t. length t.pre) xs c.loop-instance.instance-index item c.loop-instance-test.true in
    let whole = ap (sum_by (λ t. length t.pre)) c.as_slice-instance-items.ensures.value in
    let few = c.requires.inputs in
    omega arith

pub push-requires-clause-few_outputs : goal.push-requires-clause-few_outputs
push-requires-clause-few_outputs c =
    let xs = c.as_slice-instance-items.result.now in
    let item = c.instance-item.result in
    let sum = ap (λ (n : NetSystem). sum_by (λ t. length t.post) n.instances) c.loop-instance.invariant in
    let here = ap (λ (t : Instance). length t.post) c.instance-item.is in
    let cells = ap length c.cells-in-loop-instance.ensures.cells in
    let part = sum_by_more_le (λ t. length t.post) xs c.loop-instance.instance-index item c.loop-instance-test.true in
    let whole = ap (sum_by (λ t. length t.post)) c.as_slice-instance-items.ensures.value in
    let few = c.requires.outputs in
    omega arith
