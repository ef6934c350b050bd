use Rattle.std.proofs.Common.{◌≡◌, ◌∙◌, ◌++◌, ◌∷◌, [], ap, map, take, sym, subst}
use Rattle.std.proofs.lemmas.List.{map_more}
use Rattle.colour_sorts.specs.Naming.{sort_of}
use Rattle.multiset_terms.specs.Parts.{AreSized}
use Rattle.multiset_terms.proofs.Asked.{found-size}
use Rattle.multiset_terms.proofs.Using.{sized-more}
use Rattle.net_typing.specs.Rules.{first_over, ill_typed, unfit_sort, variable_refusal}
use Rattle.net_typing.proofs.Firsts.{first-more, unfit-found}
use Rattle.net_typing.proofs.PlacesFound.{variable-unfit}
use Rattle.net_typing.proofs.scope.sorts_of.Goals as goal

pub returns-in-Err-clause-refused : goal.returns-in-Err-clause-refused
returns-in-Err-clause-refused c = λ sorts partitions stands.
    let v = c.variable-item.result in
    c.of.ensures (first_over (variable_refusal sorts) c.args.variables.now)
    (rw c.of_sort.ensures (unfit-found (variable_refusal sorts) c.args.variables.now c.loop-variable.variable-index v v.id (unfit_sort c.in-Err.fault) c.loop-variable-test.true c.variable-item.is
    (variable-unfit sorts v c.in-Err.fault (c.in-Err.ensures.resolved sorts partitions stands)) (c.loop-variable.invariant sorts partitions stands).2))

pub loop-variable-preserved : goal.loop-variable-preserved
loop-variable-preserved c = λ sorts partitions stands.
    let d = c.args.domains.now in
    let vs = c.args.variables.now in
    let i = c.loop-variable.variable-index in
    let v = c.variable-item.result in
    let s = c.in-Ok.sort in
    let before = c.loop-variable.invariant sorts partitions stands in
    let known = c.in-Ok.ensures.resolved sorts partitions stands in (
      c.in_ok-push-in-Ok.ensures.items ∙ ap (λ xs. xs ++ s ∷ []) before.0
          ∙ ap (λ x. map (λ y. sort_of sorts 0 y.sort) (take i vs) ++ x ∷ []) (known.1 ∙ ap (λ x. sort_of sorts 0 x.sort) c.variable-item.is) ∙ sym (map_more (λ x. sort_of sorts 0 x.sort) vs i v c.loop-variable-test.true),
      subst (AreSized d.constants) (sym c.in_ok-push-in-Ok.ensures.items)
          (sized-more d.constants c.loop-variable.sorts.items s before.1 (found-size d sorts partitions v.sort s stands known.0 known.1)),
      first-more (variable_refusal sorts) vs i v c.loop-variable-test.true c.variable-item.is (ap (ill_typed v.id) known.0) before.2,
    )
