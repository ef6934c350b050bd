use Rattle.std.proofs.Common.{rules, ◌≡◌, true, false, refl, sym, ◌∙◌}
use Rattle.multiset_terms.proofs.ListMakers.{tuple-children, tuple-of-others, tuple-too-large}
use Rattle.multiset_terms.proofs.making.tuple.Goals as goal

pub returns-then-not-children : goal.returns-then-not-children
returns-then-not-children c = λ ctx v marking ts scope known.
    let others : c.args.children.are_choices ≡ false = search rules in
    tuple-of-others ctx marking ts c.args.children known others

pub returns-then-passes : goal.returns-then-passes
returns-then-passes c = λ ctx v marking ts scope known.
    let chosen : c.args.children.are_choices ≡ true = search rules in
    tuple-too-large ctx marking ts c.args.children _ known chosen refl (sym (c.passes_limit-passes.ensures ctx v scope) ∙ c.if-passes.true)

pub returns : goal.returns
returns c = λ ctx v marking ts scope known.
    let chosen : c.args.children.are_choices ≡ true = search rules in
    rw c.tuple_over.ensures
    (tuple-children ctx marking ts c.args.children _ scope.distinct known chosen refl (sym (c.passes_limit-passes.ensures ctx v scope) ∙ c.if-passes.false))
