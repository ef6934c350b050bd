use Rattle.colour_sorts.specs.Searching.{AreEntries}
use Rattle.colour_sorts.proofs.ordering.all_entries.Given as goal

abbrev pub invariant-loop-at : goal.invariant-loop-at
invariant-loop-at l = AreEntries l.at l.waiting.items
