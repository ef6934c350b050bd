-- The search is by the cells' places, which rise.
use Rattle.std.proofs.Common.{get_or, rules}
use Rattle.std.proofs.lemmas.List.Sorted.{answers_always}
use Rattle.wide_sums.proofs.Searches.{amount-found, amount-missing}
use Rattle.pt_net.proofs.InArrays.{any_at}
use Rattle.pt_net.proofs.rows.count_at.Goals as goal

pub returns-in-Ok-clause-count : goal.returns-in-Ok-clause-count
returns-in-Ok-clause-count c =
    let found = c.in-Ok.ensures.position (λ y. y.at) (answers_always _ _ _ (λ f a r g called. search rules)) in
    let cell = get_or c.args.row.now c.in-Ok.found (record { at = 0; count = 0 }) in
    amount-found _ _ c.in-Ok.found cell c.requires.row.rising c.in-Ok.ensures.bound (any_at c.args.row.now c.in-Ok.found (record { at = 0; count = 0 }) cell c.in-Ok.ensures.bound) (found cell)

pub returns-in-Err-clause-count : goal.returns-in-Err-clause-count
returns-in-Err-clause-count c =
    let missing = c.in-Err.ensures.position (λ y. y.at) (answers_always _ _ _ (λ f a r g called. search rules)) in
    amount-missing _ _ c.in-Err.field-0 c.requires.row.rising missing
