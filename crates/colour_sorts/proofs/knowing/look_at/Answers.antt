use Rattle.std.proofs.Common.{◌≡◌, ◌<◌, ◌++◌, ◌∷◌, [], length, get_or, ap, sym, ◌∙◌, arith, refl}
use Rattle.std.proofs.lemmas.List.{length-map}
use Rattle.std.proofs.Common.{length-append, map}
use Rattle.colour_sorts.specs.Searching.{places_named}
use Rattle.colour_sorts.specs.declared.ordering.Turn.TheVariants.{Enter}
use Rattle.colour_sorts.proofs.Known.{look-fails, look-more, look-skip}
use Rattle.colour_sorts.proofs.Searched.{enter-less}
use Rattle.colour_sorts.proofs.Walks.{term-at}
use Rattle.colour_sorts.proofs.knowing.look_at.Goals as goal

pub returns-then-not-are_declared-clause-search : goal.returns-then-not-are_declared-clause-search
returns-then-not-are_declared-clause-search c = λ root within known.
    (let sorts = c.args.sorts.now in
    let at = c.place-at.result in
    let inside : at < length sorts = omega (arith, c.requires.within, c.place-at.ensures) in
    let sort = (get_or sorts at c.index-sorts-at.result).sort in
    let is = sym (term-at sorts at c.index-sorts-at.result inside) in
    look-fails sorts c.args.ids.now c.args.visits.now c.args.waiting.now.items c.args.turn root at sort c.place-at.ensures c.requires.ids is c.if-not-are_declared.ensures known)

pub returns-in_ok-push_names-in-Fresh-clause-search : goal.returns-in_ok-push_names-in-Fresh-clause-search
returns-in_ok-push_names-in-Fresh-clause-search c = λ root within known.
    (let sorts = c.args.sorts.now in
    let at = c.place-at.result in
    let inside : at < length sorts = omega (arith, c.requires.within, c.place-at.ensures) in
    let sort = (get_or sorts at c.index-sorts-at.result).sort in
    let is = sym (term-at sorts at c.index-sorts-at.result inside) in
    look-more sorts c.args.ids.now c.args.visits.now c.args.waiting.now.items c.push_names.new.waiting.items c.args.turn root at sort c.place-at.ensures c.requires.ids is c.in-Fresh.is c.if-not-are_declared.ensures
    c.in_ok-push_names-in-Fresh.ensures known)

pub returns-in_ok-push_names-in-Fresh-clause-less : goal.returns-in_ok-push_names-in-Fresh-clause-less
returns-in_ok-push_names-in-Fresh-clause-less c =
    let more = places_named c.args.ids.now (get_or c.args.sorts.now c.place-at.result c.index-sorts-at.result).sort in
    let count = ap length c.in_ok-push_names-in-Fresh.ensures ∙ length-append c.args.waiting.now.items (map Enter more) in
    let less = enter-less c.args.ids.now c.args.sorts.now c.args.visits.now c.place-at.result (length more) c.index-sorts-at.result (omega (arith, c.requires.within, c.requires.long, c.place-at.ensures)) c.requires.long c.in-Fresh.is refl in
    omega (arith, count, length-map more Enter, less)

pub returns-in_default : goal.returns-in_default
returns-in_default c = record {
  search = λ root within known. look-skip c.args.sorts.now c.args.visits.now c.args.waiting.now.items c.args.turn root c.place-at.result c.place-at.ensures c.in_default.not-Fresh known;
  less = omega arith;
}
