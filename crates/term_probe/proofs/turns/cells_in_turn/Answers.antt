use Rattle.std.proofs.Common.{◌≡◌, ap, arith}
use Rattle.multiset_terms.specs.Rows.{total}
use Rattle.multiset_terms.proofs.Adding.{amount-total}
use Rattle.term_probe.proofs.turns.cells_in_turn.Goals as goal

-- the counts of a buffer that was empty are at most the gross total of the term
pub merge-requires : goal.merge-requires
merge-requires c = λ p.
    let known = c.requires.evaluated in
    let more = c.in-Ok.ensures.elements known.context known.marking known.term known.binding known.stands known.binds in
    let none = ap total c.clear.ensures.items in
    let part = amount-total p c.eval_into.new.cells.items in
    let whole = known.stands.gross_total in
    let light = known.stands.light in
    omega (arith, more, none, part, whole, light)
