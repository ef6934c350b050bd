use Rattle.std.proofs.Common.{◌+◌, ◌-◌, ◌≤◌, length, take}
use Rattle.pt_net.specs.Systems.{size, places}
use Rattle.trap_siphon.specs.Closing.{IsClosing, left, spent}
use Rattle.trap_siphon.proofs.closures.Closure.close.Given as goal

abbrev pub invariant-loop-next : goal.invariant-loop-next
invariant-loop-next g l = record {
  next : l.next ≤ length l.self.order.items;
  closing : IsClosing l.task.net.now l.task.packed.now l.task.active.now l.task.marking.now (size l.task.net.now)
      (spent l.task.packed.now (take l.next l.self.order.items)) l.self.set l.self.order.items l.self.missing.items;
  steps : l.steps + left l.task.packed.now (spent l.task.packed.now (take l.next l.self.order.items)) ≤ l.fn.steps + length l.task.packed.now;
}

abbrev pub decreases-loop-next : goal.decreases-loop-next
decreases-loop-next g l = places l.task.net.now - l.next
