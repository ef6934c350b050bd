use Rattle.std.proofs.Common.{◌∙◌}
use Rattle.multiset_terms.proofs.Conjunctions.{itself}
use Rattle.multiset_terms.proofs.compiled.guard_uses.Goals as goal

pub returns : goal.returns
returns c = λ ctx g id known here. c.condition_uses.ensures ∙ (itself known).variables c.args.variable id here
