use Rattle.std.proofs.Common.{◌<◌, ◌≤◌, ◌^◌}
use Rattle.colour_sorts.specs.Colours.{size}
use Rattle.colour_tables.proofs.Resolving.{if-first, if-second, resolved}
use Rattle.colour_tables.proofs.built.Built.resolve.Goals as goal

pub returns-clause-some : goal.returns-clause-some
returns-clause-some c =
    let d = c.args.self.now in
    if-first (λ s. 0 < size d.constants s) (λ s. size d.constants s ≤ 2 ^ 20) c.resolve.result
    (resolved c.self.inside.domains d c.args.sort.now c.resolve.result c.self.view_is c.self.invariant c.resolve.ensures.resolved)

pub returns-clause-limit : goal.returns-clause-limit
returns-clause-limit c =
    let d = c.args.self.now in
    if-second (λ s. 0 < size d.constants s) (λ s. size d.constants s ≤ 2 ^ 20) c.resolve.result
    (resolved c.self.inside.domains d c.args.sort.now c.resolve.result c.self.view_is c.self.invariant c.resolve.ensures.resolved)
