use Rattle.std.proofs.Common.{◌+◌, length}
use Rattle.colour_sorts.specs.Searching.{IsSearch, steps_of_all}
use Rattle.colour_sorts.proofs.ordering.search.Given as goal

abbrev pub invariant-loop-turn : goal.invariant-loop-turn
invariant-loop-turn l = IsSearch l.sorts l.visits l.waiting.items l.order.items

abbrev pub decreases-loop-turn : goal.decreases-loop-turn
decreases-loop-turn l = steps_of_all l.ids l.sorts l.visits + length l.waiting.items
