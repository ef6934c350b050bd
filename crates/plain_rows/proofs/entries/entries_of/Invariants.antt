use Rattle.std.proofs.Common.{◌≡◌, take}
use Rattle.plain_rows.specs.Entries.{AreEntriesOf}
use Rattle.plain_rows.proofs.entries.entries_of.Given as goal

abbrev pub invariant-loop-arc : goal.invariant-loop-arc
invariant-loop-arc l = (l.arcs ≡ l.net.arcs) × AreEntriesOf l.net (take l.arc-index l.arcs) l.entries.items
