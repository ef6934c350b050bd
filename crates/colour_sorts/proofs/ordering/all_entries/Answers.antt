use Rattle.colour_sorts.proofs.Searched.{entries-more}
use Rattle.colour_sorts.proofs.ordering.all_entries.Goals as goal

pub loop-at-preserved : goal.loop-at-preserved
loop-at-preserved c = entries-more c.loop-at.at c.loop-at.waiting.items _ c.in_ok-push.ensures.items c.loop-at.invariant
