use Rattle.std.proofs.Common.{length, slice_get, sym, ap, ◌∙◌}
use Rattle.std.specs.Prelude.{position}
use Rattle.std.specs.Str.{bytes_eq}
use Rattle.multiset_terms.proofs.LeafMakers.{has-size, marking-refused, sort-here, sort-is, unknown-refused, variable-known}
use Rattle.multiset_terms.proofs.leaves.variable.Goals as goal

pub returns-then-marking : goal.returns-then-marking
returns-then-marking c = λ ctx scope. marking-refused ctx c.args.marking c.args.id.now c.if-marking.true

pub returns-in-None : goal.returns-in-None
returns-in-None c = λ ctx scope.
    unknown-refused ctx c.args.marking c.args.id.now c.if-marking.false
    (ap (λ v. position (bytes_eq c.args.id.now) v.ids) (sym scope.variables) ∙ ap (position (bytes_eq c.args.id.now)) (sym c.ids.ensures) ∙ sym c.in-None.ensures)

pub size-size-requires-clause-some : goal.size-size-requires-clause-some
size-size-requires-clause-some c =
    let here = sort-here c.ids.result.now c.sorts.result.now c.args.id.now c.in-Some.number c.index-sorts-number.result (sym c.in-Some.ensures) (c.sorts.ensures.length ∙ ap length (sym c.ids.ensures)) c.index-sorts-number.is in
    (c.requires c.in-Some.number c.index-sorts-number.result (ap (λ l. slice_get l c.in-Some.number) (sym c.sorts.ensures.sorts) ∙ here)).0

pub size-size-requires-clause-limit : goal.size-size-requires-clause-limit
size-size-requires-clause-limit c =
    let here = sort-here c.ids.result.now c.sorts.result.now c.args.id.now c.in-Some.number c.index-sorts-number.result (sym c.in-Some.ensures) (c.sorts.ensures.length ∙ ap length (sym c.ids.ensures)) c.index-sorts-number.is in
    (c.requires c.in-Some.number c.index-sorts-number.result (ap (λ l. slice_get l c.in-Some.number) (sym c.sorts.ensures.sorts) ∙ here)).1

pub returns : goal.returns
returns c = λ ctx scope.
    let at = c.in-Some.number in
    let d = c.index-sorts-number.result in
    let here = sort-here c.ids.result.now c.sorts.result.now c.args.id.now at d (sym c.in-Some.ensures) (c.sorts.ensures.length ∙ ap length (sym c.ids.ensures)) c.index-sorts-number.is in
    let there = ap (λ l. slice_get l at) (sym c.sorts.ensures.sorts) ∙ here in
    let sized = c.requires at d there in
    let is = sort-is ctx at d (ap (λ v. slice_get v.sorts at) (sym scope.variables) ∙ there) in
    variable-known ctx c.args.marking c.args.id.now c.size-size.result at c.in-Ok.sort scope.distinct scope.ids c.if-marking.false
    (ap (λ v. position (bytes_eq c.args.id.now) v.ids) (sym scope.variables) ∙ ap (position (bytes_eq c.args.id.now)) (sym c.ids.ensures) ∙ sym c.in-Some.ensures)
    (c.in-Ok.ensures ∙ is)
    (has-size ctx c.args.domains.now _ c.size-size.result d is scope.domain.is c.size-size.ensures sized.0 sized.1)
