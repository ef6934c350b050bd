-- The search is by the cells' places, which rise.
use Rattle.std.proofs.Common.{rules}
use Rattle.std.proofs.lemmas.List.Sorted.{answers_always}
use Rattle.wide_sums.proofs.Searches.{amount-found, amount-missing}
use Rattle.wide_sums.proofs.rows.Row.count.Goals as goal

pub returns-in-Ok-clause-count : goal.returns-in-Ok-clause-count
returns-in-Ok-clause-count c =
    let found = rw c.deref.ensures.value at (c.in-Ok.ensures.position (λ y. y.at) (answers_always _ _ _ (λ f a r g called. search rules))) in
    rw (← c.self.view_is) (amount-found _ _ c.in-Ok.found _ c.self.invariant.rising (search (rules, c.in-Ok.ensures.bound)) c.index.ensures (found _))

pub returns-in-Err-clause-count : goal.returns-in-Err-clause-count
returns-in-Err-clause-count c =
    let missing = rw c.deref.ensures.value at (c.in-Err.ensures.position (λ y. y.at) (answers_always _ _ _ (λ f a r g called. search rules))) in
    rw (← c.self.view_is) (amount-missing _ _ c.in-Err.field-0 c.self.invariant.rising missing)
