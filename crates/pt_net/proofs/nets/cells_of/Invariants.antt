use Rattle.std.proofs.Common.{◌≡◌, length, sum_by, take}
use Rattle.pt_net.proofs.nets.cells_of.Given as goal

abbrev pub invariant-loop-instance : goal.invariant-loop-instance
invariant-loop-instance l = record {
  inputs : l.inputs ≡ sum_by (λ t. length t.pre) (take l.instance-index l.instances);
  outputs : l.outputs ≡ sum_by (λ t. length t.post) (take l.instance-index l.instances);
}
