use Rattle.std.proofs.Common.{◌≡◌, ℕ, ◌<◌, true}
use Rattle.trap_siphon.specs.Siphons.{keeps_siphon}
use Rattle.trap_siphon.proofs.siphons.is_siphon.Given as goal

abbrev pub invariant-loop-instance : goal.invariant-loop-instance
invariant-loop-instance l = (i : ℕ) → i < l.instance → keeps_siphon l.net l.set i ≡ true
