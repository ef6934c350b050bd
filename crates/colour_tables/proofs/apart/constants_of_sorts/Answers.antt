use Rattle.std.proofs.Common.{◌++◌, ap, ◌∙◌, take}
use Rattle.net_model.specs.Ids.{constants_in, constants_of, names_in}
use Rattle.colour_tables.proofs.NewNames.{more-names}
use Rattle.colour_tables.proofs.apart.constants_of_sorts.Goals as goal

pub loop-sort-preserved : goal.loop-sort-preserved
loop-sort-preserved c =
    let sorts = c.args.sorts.now in
    let i = c.loop-sort.sort-index in
    c.in_ok-append_copies.ensures
    ∙ ap (λ xs. xs ++ c.constants_declared.result.now) c.loop-sort.invariant
    ∙ ap (λ xs. names_in (constants_of (take i sorts)) ++ xs) c.constants_declared.ensures
    ∙ more-names (λ s. constants_in s.sort) sorts i c.sort-item.result c.loop-sort-test.true c.sort-item.is
