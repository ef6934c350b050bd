use Rattle.std.proofs.Common.{◌≡◌, ◌++◌, ◌∷◌, [], map, length, get_or, set, refl, ap, sym, ◌∙◌, arith, subst}
use Rattle.net_model.specs.Ids.{ids_of}
use Rattle.colour_sorts.specs.Searching.{IsSearch, places_named}
use Rattle.colour_sorts.specs.declared.ordering.Turn.TheVariants.{Enter, Leave}
use Rattle.colour_sorts.specs.declared.ordering.Visit.TheVariants.{Open}
use Rattle.colour_sorts.proofs.Named.{leads-inside}
use Rattle.colour_sorts.proofs.Searched.{enter-count, enter-less, search-enter, search-skip}
use Rattle.colour_sorts.proofs.Walks.{term-at}
use Rattle.colour_sorts.proofs.ordering.enter.Goals as goal

pub returns-in_ok-push_names-in-Fresh-clause-search : goal.returns-in_ok-push_names-in-Fresh-clause-search
returns-in_ok-push_names-in-Fresh-clause-search c = λ order search.
    (let sorts = c.args.sorts.now in
    let at = c.args.at in
    let waiting = c.args.waiting.now.items in
    let sort = (get_or sorts at c.index-sorts-at.result).sort in
    let is = term-at sorts at c.index-sorts-at.result c.requires.within in
    let items = c.in_ok-push_names-in-Fresh.ensures ∙ ap (λ ws. ws ++ map Enter (places_named c.args.ids.now sort)) c.in_ok-push-in-Fresh.ensures.items
    ∙ ap (λ ids. (waiting ++ Leave at ∷ []) ++ map Enter (places_named ids sort)) c.requires.ids in
    subst (λ ws. IsSearch sorts (set c.args.visits.now at Open) ws order) (sym (items ∙ ap (λ t. (waiting ++ Leave at ∷ []) ++ map Enter (places_named (ids_of sorts) t)) (sym is)))
    (search-enter sorts c.args.visits.now waiting order at c.requires.within search c.in-Fresh.is (λ to leads. leads-inside sorts at to leads)))

pub returns-in_ok-push_names-in-Fresh-clause-less : goal.returns-in_ok-push_names-in-Fresh-clause-less
returns-in_ok-push_names-in-Fresh-clause-less c =
    let more = places_named c.args.ids.now (get_or c.args.sorts.now c.args.at c.index-sorts-at.result).sort in
    let count = enter-count c.args.waiting.now.items c.push.new.self.items c.push_names.new.waiting.items (Leave c.args.at) more c.in_ok-push-in-Fresh.ensures.items c.in_ok-push_names-in-Fresh.ensures in
    let less = enter-less c.args.ids.now c.args.sorts.now c.args.visits.now c.args.at (length more) c.index-sorts-at.result (omega (arith, c.requires.within, c.requires.long)) c.requires.long c.in-Fresh.is refl in
    omega (arith, count, less)

pub returns-in_default : goal.returns-in_default
returns-in_default c = record {
  search = λ order search. search-skip c.args.sorts.now c.args.visits.now c.args.waiting.now.items order c.args.at search c.in_default.not-Fresh;
  less = omega arith;
}
