use Rattle.multiset_terms.proofs.Asked.{found-has, found-size}
use Rattle.multiset_terms.proofs.asking.resolved.Goals as goal

pub size-size-requires-clause-some : goal.size-size-requires-clause-some
size-size-requires-clause-some c =
    let known = c.in-Ok.ensures.resolved c.requires.sorts c.requires.partitions c.requires.stands in
    (found-size c.args.domains.now c.requires.sorts c.requires.partitions c.args.sort.now c.in-Ok.found c.requires.stands known.0 known.1).0

pub size-size-requires-clause-limit : goal.size-size-requires-clause-limit
size-size-requires-clause-limit c =
    let known = c.in-Ok.ensures.resolved c.requires.sorts c.requires.partitions c.requires.stands in
    (found-size c.args.domains.now c.requires.sorts c.requires.partitions c.args.sort.now c.in-Ok.found c.requires.stands known.0 known.1).1

pub returns-in-Ok-clause-found : goal.returns-in-Ok-clause-found
returns-in-Ok-clause-found c = λ ctx v scope.
    let known = c.in-Ok.ensures.resolved ctx.sorts ctx.partitions scope.domain in
    (known.0, known.1, found-has ctx c.args.domains.now v c.args.sort.now c.in-Ok.found c.size-size.result scope known.0 known.1 c.size-size.ensures)

pub returns-in-Ok-clause-sized : goal.returns-in-Ok-clause-sized
returns-in-Ok-clause-sized c =
    let known = c.in-Ok.ensures.resolved c.requires.sorts c.requires.partitions c.requires.stands in
    found-size c.args.domains.now c.requires.sorts c.requires.partitions c.args.sort.now c.in-Ok.found c.requires.stands known.0 known.1
