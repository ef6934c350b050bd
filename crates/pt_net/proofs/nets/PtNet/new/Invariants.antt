use Rattle.std.proofs.Common.{◌≡◌, take}
use Rattle.pt_net.specs.Systems.{system_of}
use Rattle.pt_net.proofs.nets.PtNet.new.Given as goal

abbrev pub invariant-loop-instance : goal.invariant-loop-instance
invariant-loop-instance l = l.builder ≡ system_of l.fn.initial.items (take l.instance-index l.instance-items)
