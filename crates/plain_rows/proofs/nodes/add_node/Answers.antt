use Rattle.std.proofs.Common.{◌<◌, ◌^◌, ◌∷◌, [], ◌++◌, length, arith, subst, sym}
use Rattle.std.proofs.lemmas.List.{length_push}
use Rattle.plain_rows.specs.Nodes.{AreNumbered}
use Rattle.plain_rows.proofs.Distinct.{distinct_push}
use Rattle.plain_rows.proofs.nodes.add_node.Goals as goal

pub returns-in-New-clause-numbered : goal.returns-in-New-clause-numbered
returns-in-New-clause-numbered c =
    let added = rw (c.in-New.is) at c.in_ok-add.ensures.added in
    let ids = c.args.ids.now in
    let id = c.bytes-2.result.now in
    let few : length (ids ++ id ∷ []) < 2 ^ 32 = omega (arith, length_push ids id) in
    let numbered : AreNumbered (ids ++ id ∷ []) = record { distinct = distinct_push ids id c.requires.distinct added.0; few = few } in
    subst AreNumbered (sym added.2) numbered
