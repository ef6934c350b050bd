use Rattle.std.proofs.Common.{◌∙◌, arith}
use Rattle.net_firing.specs.FileNets.{context_of}
use Rattle.net_typing.specs.TypedArcs.{joined_of}
use Rattle.net_typing.proofs.ArcsFound.{arc-fits, arc-unfit, met, no_place, place-sort, place-typed}
use Rattle.net_typing.proofs.arcs.typed_arc.Goals as goal

pub bounds-places-ends : goal.bounds-places-ends
bounds-places-ends g c =
    let known = met g.net c.args.table.now c.args.arc.now c.in-Some.source c.in-Some-end.target (joined_of c.in-Some-joining.ends) c.bytes.result.now c.bytes-2.result.now c.requires.nodes c.requires.unbroken c.in-Some.ensures.end c.bytes.ensures c.in-Some-end.ensures.end c.bytes-2.ensures c.in-Some-joining.ensures in
    omega (arith, known.inside.place, c.requires.typed.many)

pub get-sort-requires : goal.get-sort-requires
get-sort-requires g c =
    let known = met g.net c.args.table.now c.args.arc.now c.in-Some.source c.in-Some-end.target (joined_of c.in-Some-joining.ends) c.bytes.result.now c.bytes-2.result.now c.requires.nodes c.requires.unbroken c.in-Some.ensures.end c.bytes.ensures c.in-Some-end.ensures.end c.bytes-2.ensures c.in-Some-joining.ensures in
    (place-typed g.net c.args.scope.now c.args.table.now c.args.places.now c.in-Some-joining.ends.place no_place c.index-places-ends.result c.requires known.inside.place).with

pub returns-in-Ok : goal.returns-in-Ok
returns-in-Ok g c =
    let known = met g.net c.args.table.now c.args.arc.now c.in-Some.source c.in-Some-end.target (joined_of c.in-Some-joining.ends) c.bytes.result.now c.bytes-2.result.now c.requires.nodes c.requires.unbroken c.in-Some.ensures.end c.bytes.ensures c.in-Some-end.ensures.end c.bytes-2.ensures c.in-Some-joining.ensures in
    let sort = place-sort g.net c.args.scope.now c.args.table.now c.args.places.now c.in-Some-joining.ends.place no_place c.index-places-ends.result c.requires known.inside.place in
    arc-fits g.net c.args.arc.now c.in-Some-joining.ends c.get-sort.result.now c.in-Ok.moves known (c.get-sort.ensures ∙ sort) (c.in-Ok.ensures (context_of g.net) c.requires.over)

pub returns-in-Err : goal.returns-in-Err
returns-in-Err g c =
    let known = met g.net c.args.table.now c.args.arc.now c.in-Some.source c.in-Some-end.target (joined_of c.in-Some-joining.ends) c.bytes.result.now c.bytes-2.result.now c.requires.nodes c.requires.unbroken c.in-Some.ensures.end c.bytes.ensures c.in-Some-end.ensures.end c.bytes-2.ensures c.in-Some-joining.ensures in
    let sort = place-sort g.net c.args.scope.now c.args.table.now c.args.places.now c.in-Some-joining.ends.place no_place c.index-places-ends.result c.requires known.inside.place in
    arc-unfit g.net c.args.arc.now (joined_of c.in-Some-joining.ends) c.get-sort.result.now c.in-Err.unfit known (c.get-sort.ensures ∙ sort) (c.in-Err.ensures (context_of g.net) c.requires.over)
