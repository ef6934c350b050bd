use Rattle.std.proofs.Common.{◌≡◌, [], length}
use Rattle.plain_rows.specs.Entries.{AreInstances}
use Rattle.plain_rows.proofs.filling.empty_instances.Given as goal

abbrev pub invariant-loop-transition : goal.invariant-loop-transition
invariant-loop-transition l = (length l.instances.items ≡ l.transition) × AreInstances [] l.instances.items
