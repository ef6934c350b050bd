use Rattle.std.proofs.Common.{◌≡◌, ◌+◌, ◌≤◌, ℕ, take, true}
use Rattle.trap_siphon.specs.Sets.{has}
use Rattle.pt_net.specs.Systems.{size}
use Rattle.trap_siphon.specs.Closing.{IsClosing, IsExtended, left, spent, spent_to}
use Rattle.trap_siphon.proofs.closures.Closure.spread.Given as goal

abbrev pub invariant-loop-k : goal.invariant-loop-k
invariant-loop-k g l = record {
  closing : IsClosing l.task.net.now l.task.packed.now l.task.active.now l.task.marking.now (size l.task.net.now)
      (spent_to l.task.packed.now (take l.next l.fn.self.order.items) l.place l.k) l.self.set l.self.order.items l.self.missing.items;
  keeps : (p : ℕ) → has l.fn.self.set p ≡ true → has l.self.set p ≡ true;
  more : IsExtended l.fn.self.order.items l.self.order.items;
  steps : l.steps + left l.task.packed.now (spent_to l.task.packed.now (take l.next l.fn.self.order.items) l.place l.k)
      ≤ l.fn.steps + left l.task.packed.now (spent l.task.packed.now (take l.next l.fn.self.order.items));
}
