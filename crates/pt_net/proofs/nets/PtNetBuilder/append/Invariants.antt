use Rattle.std.proofs.Common.{◌≡◌, ◌++◌, take}
use Rattle.pt_net.specs.Systems.{system_of}
use Rattle.pt_net.proofs.nets.PtNetBuilder.append.Given as goal

abbrev pub invariant-loop-instance : goal.invariant-loop-instance
invariant-loop-instance l = l.self ≡ system_of l.fn.self.initial (l.fn.self.instances ++ take l.instance l.part.instances)
