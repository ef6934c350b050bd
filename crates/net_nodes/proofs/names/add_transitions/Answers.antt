use Rattle.std.proofs.Common.{sym, ap, subst, ◌++◌, ◌∷◌, [], ◌∙◌, get_or}
use Rattle.std.specs.List.{IsDistinct}
use Rattle.std.specs.Str.{bytes_eq}
use Rattle.net_nodes.proofs.Added.{distinct-next}
use Rattle.net_nodes.proofs.names.add_transitions.Goals as goal

pub add-requires-clause-apart : goal.add-requires-clause-apart
add-requires-clause-apart c =
    let all = c.args.transitions.now in
    let i = c.loop-transition.transition-index in
    subst (IsDistinct bytes_eq)
    (ap (λ ids. ids ++ (get_or all i c.transition-item.result).id ∷ []) (sym c.loop-transition.invariant) ∙ ap (λ x. c.loop-transition.ids ++ x.id ∷ []) (sym c.transition-item.is))
    (distinct-next (λ x. x.id) c.args.ids.now all i c.transition-item.result c.loop-transition-test.true c.requires.apart)
