use Rattle.std.proofs.Common.{◌∙◌, ap, sym, subst, Some}
use Rattle.colour_sorts.specs.Naming.{place_of}
use Rattle.colour_sorts.proofs.Lent.{named-sort}
use Rattle.net_model.specs.declared.sorts.SortTerm.TheVariants as term
use Rattle.net_typing.specs.declared.sorts.SharedSort.TheVariants as sort
use Rattle.net_typing.specs.Standing.{IsSortOf}
use Rattle.net_typing.proofs.SortsFound.{sort-found}
use Rattle.net_typing.proofs.sorts.SharedSort.of.Goals as goal

pub returns-in-Some-clause-answer : goal.returns-in-Some-clause-answer
returns-in-Some-clause-answer c = λ ctx v scope.
    let d = c.args.domains.now in
    let id = c.in-Named.id in
    let at = c.in-Some.at in
    let there = ap (λ ids. place_of ids id) (sym (ap (λ x. x.ids) scope.domain.is)) ∙ sym (c.in-Some.ensures ∙ ap (place_of d.ids) c.bytes.ensures) in
    let known = named-sort d ctx.sorts ctx.partitions id scope.domain (Some at) there in
    subst (λ w. IsSortOf ctx d w (sort.Named at)) (sym c.in-Named.is) (sort-found ctx d (term.Named id) (sort.Named at) scope.domain known.1 known.2)

pub returns-in_ok-resolve-in_default : goal.returns-in_ok-resolve-in_default
returns-in_ok-resolve-in_default c = record {
  answer = λ ctx v scope.
      let known = c.in_ok-resolve-in_default.ensures.resolved ctx.sorts ctx.partitions scope.domain in
      sort-found ctx c.args.domains.now c.args.written.now _ scope.domain known.0 known.1;
  shared = tt;
}
