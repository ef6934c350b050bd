use Rattle.std.proofs.Common.{◌≡◌, ◌+◌, ◌*◌, ◌<◌, ◌≤◌, ◌++◌, ◌∷◌, [], ap, sym, subst, ◌∙◌, arith}
use Rattle.multiset_terms.specs.Buffers.{cell_of}
use Rattle.multiset_terms.specs.Trees.{reading}
use Rattle.multiset_terms.proofs.Adding.{one-added}
use Rattle.multiset_terms.proofs.ValueLaws.{is-one}
use Rattle.multiset_terms.proofs.values.add_colour.Goals as goal

pub push-requires-clause-room : goal.push-requires-clause-room
push-requires-clause-room c = let within = c.place.ensures.within in let room = c.requires.room in omega (arith, within, room)

pub push-requires-clause-fits : goal.push-requires-clause-fits
push-requires-clause-fits c =
    let one = is-one c.args.binding.now c.args.tree.now c.requires.colour in
    let same = ap (λ n. c.args.scale.times * n) one.gross in
    omega (arith, same, c.requires.fits)

pub returns : goal.returns
returns c =
    let r = reading c.args.binding.now c.args.tree.now in
    let place = c.place.ensures.place in
    let within = c.place.ensures.within in
    one-added r c.args.scale c.args.cells.now.items c.push.new.cells.items (is-one c.args.binding.now c.args.tree.now c.requires.colour) (omega (arith, place, within))
    (c.in_ok-push.ensures ∙ ap (λ at. c.args.cells.now.items ++ cell_of c.args.scale at 1 ∷ []) place)
