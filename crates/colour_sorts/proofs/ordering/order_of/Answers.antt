use Rattle.std.proofs.Common.{◌≡◌, length, ap, sym, ◌∙◌, arith, subst}
use Rattle.std.proofs.lemmas.List.{length-map}
use Rattle.colour_sorts.specs.Searching.{AreEntries}
use Rattle.colour_sorts.proofs.Searched.{search-start}
use Rattle.colour_sorts.proofs.ordering.order_of.Goals as goal

pub search-requires-clause-search : goal.search-requires-clause-search
search-requires-clause-search c =
    search-start c.args.sorts.now c.as_mut_slice.result.now c.in_ok-waiting.waiting.items c.in_ok-order.order.items (c.as_mut_slice.ensures.value ∙ c.in_ok-visits.ensures)
    (subst (λ n. AreEntries n c.in_ok-waiting.waiting.items) (c.count.ensures ∙ ap length c.requires ∙ length-map c.args.sorts.now (λ s. s.id)) c.in_ok-waiting.ensures)
    c.in_ok-order.ensures.items
