use Rattle.std.proofs.Common.{sym, ap, subst, ◌++◌, ◌∷◌, [], ◌∙◌, get_or}
use Rattle.std.specs.List.{IsDistinct}
use Rattle.std.specs.Str.{bytes_eq}
use Rattle.net_nodes.proofs.Added.{distinct-next}
use Rattle.net_nodes.proofs.names.add_places.Goals as goal

pub add-requires-clause-apart : goal.add-requires-clause-apart
add-requires-clause-apart c =
    let all = c.args.places.now in
    let i = c.loop-place.place-index in
    subst (IsDistinct bytes_eq)
    (ap (λ ids. ids ++ (get_or all i c.place-item.result).id ∷ []) (sym c.loop-place.invariant) ∙ ap (λ x. c.loop-place.ids ++ x.id ∷ []) (sym c.place-item.is))
    (distinct-next (λ x. x.id) c.args.ids.now all i c.place-item.result c.loop-place-test.true c.requires.apart)
