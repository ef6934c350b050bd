use Rattle.std.proofs.Common.{◌∙◌, ap, subst, true}
use Rattle.colour_sorts.specs.Colours.{size}
use Rattle.net_typing.specs.Standing.{IsInscribed}
use Rattle.net_typing.proofs.PlacesFound.{place-fits, place-marking-unfit, place-sort-unfit}
use Rattle.net_typing.proofs.places.typed_place.Goals as goal

pub returns-in-Err : goal.returns-in-Err
returns-in-Err c = λ ctx scope. rw c.of_sort.ensures (place-sort-unfit ctx c.args.scope.now.domains c.args.place.now c.in-Err.fault (c.in-Err.ensures.answer ctx c.args.scope.now.variables scope))

pub returns-in-Ok-marking : goal.returns-in-Ok-marking
returns-in-Ok-marking c = λ ctx scope.
    let sort = c.in-Ok.ensures.answer ctx c.args.scope.now.variables scope in
    let same = c.get-known.ensures ∙ sort.is in
    let marked = subst (λ s. IsInscribed ctx true 0 s c.args.place.now.marking c.in-Ok-marking.marking) same (c.in-Ok-marking.ensures ctx scope) in (
      record { sort = sort; with = c.in-Ok.ensures.shared; size = c.size-size.ensures ∙ ap (size c.args.scope.now.domains.constants) same; marking = marked },
      place-fits ctx c.args.place.now sort.unbroken marked.typed marked.light,
    )

pub returns-in-Err-marking : goal.returns-in-Err-marking
returns-in-Err-marking c = λ ctx scope.
    let sort = c.in-Ok.ensures.answer ctx c.args.scope.now.variables scope in
    place-marking-unfit ctx c.args.place.now c.get-known.result.now c.in-Err-marking.unfit sort.unbroken (c.get-known.ensures ∙ sort.is) (c.in-Err-marking.ensures ctx scope)
