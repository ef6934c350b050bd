use Rattle.std.proofs.Common.{sym, ap, ◌∙◌}
use Rattle.colour_sorts.specs.Calls.{group_of}
use Rattle.colour_sorts.proofs.Grouped.{group-some}
use Rattle.colour_sorts.proofs.domains.Domains.operator.Goals as goal

pub enumeration-requires : goal.enumeration-requires
enumeration-requires c = group-some c.args.self.now.constants c.args.id.now c.in-Some.spot.group
    (ap (λ d. group_of d.constants c.args.id.now) (sym c.self.view_is) ∙ c.in-Some.ensures.0)
