use Rattle.std.proofs.Common.{ap, arith, length}
use Rattle.std.proofs.lemmas.List.{length-map}
use Rattle.colour_sorts.proofs.Partitioned.{resolved-size}
use Rattle.colour_sorts.proofs.domains.Domains.divide_partition.Goals as goal

pub division-requires-clause-some : goal.division-requires-clause-some
division-requires-clause-some c =
    let stands = c.requires.stands in
    let known = c.in-Ok.ensures.resolved stands.0 stands.1 stands.2 in
    (resolved-size c.args.self.now stands.0 stands.1 c.args.partition.now.sort c.in-Ok.sort stands.2 known.0 known.1).0

pub division-requires-clause-limit : goal.division-requires-clause-limit
division-requires-clause-limit c =
    let stands = c.requires.stands in
    let known = c.in-Ok.ensures.resolved stands.0 stands.1 stands.2 in
    (resolved-size c.args.self.now stands.0 stands.1 c.args.partition.now.sort c.in-Ok.sort stands.2 known.0 known.1).1

pub division-requires-clause-count : goal.division-requires-clause-count
division-requires-clause-count c = omega (arith, c.requires.count, length-map c.args.partition.now.elements (λ element. element.id), ap length c.as_slice.ensures)
