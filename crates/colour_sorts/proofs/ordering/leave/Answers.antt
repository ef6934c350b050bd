use Rattle.std.proofs.Common.{rules, ap, sym, ◌∙◌, subst, set, ◌++◌, ◌∷◌, []}
use Rattle.colour_sorts.specs.declared.ordering.Visit.TheVariants.{Placed}
use Rattle.colour_sorts.specs.Searching.{IsSearch}
use Rattle.colour_sorts.proofs.Searched.{leave-less, search-leave}
use Rattle.colour_sorts.proofs.ordering.leave.Goals as goal

pub returns-clause-search : goal.returns-clause-search
returns-clause-search c = λ sorts waiting search.
    rw c.in_ok-push.ensures.items (search-leave sorts c.args.visits.now waiting c.args.order.now.items c.args.at c.requires.within search)

pub returns-clause-less : goal.returns-clause-less
returns-clause-less c = λ ids sorts long. leave-less ids sorts c.args.visits.now c.args.at c.requires.within long
