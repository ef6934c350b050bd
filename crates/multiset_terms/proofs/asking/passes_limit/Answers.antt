use Rattle.std.proofs.Common.{ap, ◌∙◌}
use Rattle.colour_sorts.specs.Limits.{passes_limit}
use Rattle.multiset_terms.proofs.asking.passes_limit.Goals as goal

pub returns : goal.returns
returns c = λ ctx v scope. c.passes_limit.ensures ∙ ap (λ d. passes_limit d.constants c.args.sort.now) scope.domain.is
