use Rattle.std.proofs.Common.{◌≡◌, ◌<◌, ℕ, true}
use Rattle.std.specs.Prelude.{slice_index}
use Rattle.trap_siphon.specs.Sets.{has}
use Rattle.pt_net.specs.Systems.{post}
use Rattle.trap_siphon.specs.Closing.{Adds}
use Rattle.trap_siphon.proofs.closures.Closure.add_free.Given as goal

abbrev pub invariant-loop-instance : goal.invariant-loop-instance
invariant-loop-instance l = record {
  adds : Adds (λ p. (i : ℕ) × (i < l.instance) × (slice_index l.fn.self.missing.items i ≡ 0) × (has l.active i ≡ true) × (0 < post l.net i p)) l.fn.self.set l.self.set l.fn.self.order.items l.self.order.items;
  missing : l.self.missing ≡ l.fn.self.missing;
}
