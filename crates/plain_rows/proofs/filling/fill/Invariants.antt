use Rattle.std.proofs.Common.{◌≡◌, ◌+◌, length, take, sum_by, All}
use Rattle.plain_rows.specs.Entries.{AreInstances, HasRows}
use Rattle.plain_rows.proofs.filling.fill.Given as goal

abbrev pub invariant-loop-entry : goal.invariant-loop-entry
invariant-loop-entry l = record {
  as_long : length l.instances ≡ length l.fn.instances;
  filled : AreInstances (take l.entry-index l.entries) l.instances;
  rows : All HasRows l.instances;
  cells : sum_by (λ t. length t.pre + length t.post) l.instances ≡ l.entry-index;
}
