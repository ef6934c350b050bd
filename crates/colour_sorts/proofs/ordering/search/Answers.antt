use Rattle.std.proofs.Common.{◌≡◌, ◌++◌, ◌∷◌, [], length, ap, sym, ◌∙◌, arith, subst}
use Rattle.colour_sorts.specs.Searching.{IsSearch}
use Rattle.colour_sorts.specs.declared.ordering.Turn.TheVariants.{Enter, Leave}
use Rattle.colour_sorts.proofs.Searched.{popped-inside, search-popped}
use Rattle.colour_sorts.proofs.ordering.search.Goals as goal

pub enter-requires-clause-within : goal.enter-requires-clause-within
enter-requires-clause-within c =
    popped-inside c.args.sorts.now c.loop-turn.visits c.pop.new.self.items (Enter c.in-Enter.at) c.loop-turn.order.items
    (search-popped c.args.sorts.now c.loop-turn.visits c.loop-turn.waiting.items c.pop.new.self.items c.in-Some.turn (Enter c.in-Enter.at) c.loop-turn.order.items c.loop-turn.invariant c.in-Some.ensures.items c.in-Enter.is)

pub loop-turn-preserved-in-Continue-1 : goal.loop-turn-preserved-in-Continue-1
loop-turn-preserved-in-Continue-1 c = c.in_ok-enter-in-Enter.ensures.search c.loop-turn.order.items
    (search-popped c.args.sorts.now c.loop-turn.visits c.loop-turn.waiting.items c.pop.new.self.items c.in-Some.turn (Enter c.in-Enter.at) c.loop-turn.order.items c.loop-turn.invariant c.in-Some.ensures.items c.in-Enter.is)

pub leave-requires : goal.leave-requires
leave-requires c = record {
  within = (let inside = popped-inside c.args.sorts.now c.loop-turn.visits c.pop.new.self.items (Leave c.in-Leave.at) c.loop-turn.order.items
      (search-popped c.args.sorts.now c.loop-turn.visits c.loop-turn.waiting.items c.pop.new.self.items c.in-Some.turn (Leave c.in-Leave.at) c.loop-turn.order.items c.loop-turn.invariant c.in-Some.ensures.items c.in-Leave.is) in
      omega (arith, inside, c.loop-turn.invariant.as_long));
}

pub loop-turn-preserved : goal.loop-turn-preserved
loop-turn-preserved c = c.in_ok-leave-in-Leave.ensures.search c.args.sorts.now c.pop.new.self.items
    (search-popped c.args.sorts.now c.loop-turn.visits c.loop-turn.waiting.items c.pop.new.self.items c.in-Some.turn (Leave c.in-Leave.at) c.loop-turn.order.items c.loop-turn.invariant c.in-Some.ensures.items c.in-Leave.is)
