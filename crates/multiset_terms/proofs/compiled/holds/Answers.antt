use Rattle.std.proofs.Common.{ap, ◌∙◌}
use Rattle.multiset_terms.specs.Conditions.{verdict}
use Rattle.multiset_terms.proofs.Conjunctions.{itself}
use Rattle.multiset_terms.proofs.compiled.holds.Goals as goal

pub is_true-requires : goal.is_true-requires
is_true-requires c =
    ap (λ d. (verdict d c.args.binding.now c.args.guard.now).is_fit) c.requires.declared
    ∙ (itself c.requires.stands).fit c.requires.binding c.args.binding.now c.requires.binds

pub returns : goal.returns
returns c = λ ctx g b declared stands binds.
    c.is_true.ensures ∙ ap (λ d. (verdict d c.args.binding.now c.args.guard.now).is_true) declared ∙ (itself stands).truths b c.args.binding.now binds
