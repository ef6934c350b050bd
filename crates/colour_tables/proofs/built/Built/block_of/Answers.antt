use Rattle.std.proofs.Common.{ap, arith}
use Rattle.colour_sorts.specs.Colours.{size}
use Rattle.colour_tables.proofs.Resolving.{found}
use Rattle.colour_tables.proofs.built.Built.block_of.Goals as goal

pub size-requires-clause-some : goal.size-requires-clause-some
size-requires-clause-some c = rw c.partition_sort-sort.ensures (found c.self.inside.domains c.args.partition.now c.in_ok-at.at c.self.invariant c.in_ok-at.ensures).0.0

pub size-requires-clause-limit : goal.size-requires-clause-limit
size-requires-clause-limit c = rw c.partition_sort-sort.ensures (found c.self.inside.domains c.args.partition.now c.in_ok-at.at c.self.invariant c.in_ok-at.ensures).0.1

pub block_of-requires-clause-index : goal.block_of-requires-clause-index
block_of-requires-clause-index c =
    let d = c.self.inside.domains in
    let long = (found d c.args.partition.now c.in_ok-at.at c.self.invariant c.in_ok-at.ensures).1 in
    omega (arith, c.if-index-size.true, c.size.ensures, long, ap (size d.constants) c.partition_sort-sort.ensures)
