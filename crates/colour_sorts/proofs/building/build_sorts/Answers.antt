use Rattle.std.proofs.Common.{[], ap, sym, ◌∙◌, None, Some}
use Rattle.std.proofs.lemmas.List.{get_or-map}
use Rattle.colour_sorts.specs.Domain.{before}
use Rattle.colour_sorts.proofs.building.build_sorts.Goals as goal

pub bounds-sorts-broken : goal.bounds-sorts-broken
bounds-sorts-broken c = let known = rw c.in-Ok-Err.field-0-is at c.in-Ok-Err.ensures in known.1

pub returns-in-Ok-clause-refused : goal.returns-in-Ok-clause-refused
returns-in-Ok-clause-refused c =
    let known = rw c.in-Ok-Err.field-0-is at c.in-Ok-Err.ensures in
    let sorts = c.args.sorts.now in
    let item = c.index-sorts-broken.result in
    let id = get_or-map (λ s. s.id) sorts c.in-Ok-Err.broken.at item [] known.1 ∙ sym c.in-Ok.ensures in
    ap (λ f. before f None) (sym known.0 ∙ ap (λ i. Some (i, c.in-Ok-Err.broken.rule)) id)
