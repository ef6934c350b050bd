use Rattle.std.proofs.Common.{sym, ap, subst, ◌++◌, ◌∷◌, [], ◌∙◌, get_or}
use Rattle.std.specs.List.{IsDistinct}
use Rattle.std.specs.Str.{bytes_eq}
use Rattle.net_nodes.proofs.Added.{distinct-next}
use Rattle.net_nodes.proofs.names.add_references.Goals as goal

pub add-requires-clause-apart : goal.add-requires-clause-apart
add-requires-clause-apart c =
    let all = c.args.references.now in
    let i = c.loop-reference.reference-index in
    subst (IsDistinct bytes_eq)
    (ap (λ ids. ids ++ (get_or all i c.reference-item.result).id ∷ []) (sym c.loop-reference.invariant) ∙ ap (λ x. c.loop-reference.ids ++ x.id ∷ []) (sym c.reference-item.is))
    (distinct-next (λ x. x.id) c.args.ids.now all i c.reference-item.result c.loop-reference-test.true c.requires.apart)
