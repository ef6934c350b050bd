use Rattle.std.proofs.Common.{◌<◌, length, sym, ap, ◌∙◌, arith, Some, None}
use Rattle.colour_sorts.specs.Calls.{sort_at}
use Rattle.colour_sorts.proofs.Lent.{held-sort}
use Rattle.colour_sorts.proofs.PlacesIn.{none-is-some, some-is-some}
use Rattle.colour_sorts.proofs.domains.Domains.sort.Goals as goal

pub unreachable-requires : goal.unreachable-requires
unreachable-requires c =
    let here = c.self.invariant.0.held c.args.at (omega (arith, c.requires, ap (λ d. length d.ids) c.self.view_is, c.self.invariant.1)) in
    none-is-some here.0 (some-is-some None (Some here.0) (sym c.in-None.ensures ∙ here.2))

pub returns : goal.returns
returns c = held-sort c.self.inside.sorts c.args.at c.in-Some.sort.now c.in-Some.ensures ∙ ap (λ d. sort_at d.sorts c.args.at) c.self.view_is
