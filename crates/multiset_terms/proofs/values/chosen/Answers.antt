use Rattle.std.proofs.Common.{◌≡◌, ℕ, ◌+◌, ◌-◌, ◌*◌, ◌/◌, ◌%◌, ap, subst, sym, ◌∙◌, arith}
use Rattle.std.specs.Prelude.{nat_eq, nat_lt}
use Rattle.std.proofs.lemmas.Bool.Decides.{nat_tests}
use Rattle.wide_sums.specs.Cells.{amount}
use Rattle.multiset_terms.specs.Rows.{AreBelow, AreFronts, total}
use Rattle.multiset_terms.specs.Trees.{is_between, once, reading}
use Rattle.multiset_terms.proofs.ValueLaws.{is-one, is-every}
use Rattle.multiset_terms.proofs.values.chosen.Goals as goal

only : (at q : ℕ) → once (is_between at (at + 1) q) ≡ once (nat_eq at q)
only at q = grind (arith, nat_tests)

from-zero : (size q : ℕ) → once (is_between 0 size q) ≡ once (nat_lt q size)
from-zero size q = grind (arith, nat_tests)

pub place-at-requires-clause-colour : goal.place-at-requires-clause-colour
place-at-requires-clause-colour c = sym (c.is_colour.ensures c.args.binding.now) ∙ c.if-is_colour.true

pub extended-requires-clause-room : goal.extended-requires-clause-room
extended-requires-clause-room c =
    rw (c.size_of-size.ensures c.args.binding.now c.requires.choice)
    (subst (AreFronts (reading c.args.binding.now c.args.part.now).size) (sym c.cells.ensures.cells) c.requires.room)

pub extended-requires-else-is_colour-clause-room : goal.extended-requires-else-is_colour-clause-room
extended-requires-else-is_colour-clause-room c =
    rw (c.size_of-size.ensures c.args.binding.now c.requires.choice)
    (subst (AreFronts (reading c.args.binding.now c.args.part.now).size) (sym c.cells-else-is_colour.ensures.cells) c.requires.room)

pub returns-in_ok-row : goal.returns-in_ok-row
returns-in_ok-row c =
    let r = reading c.args.binding.now c.args.part.now in
    let one = is-one c.args.binding.now c.args.part.now (sym (c.is_colour.ensures c.args.binding.now) ∙ c.if-is_colour.true) in
    let size = c.size_of-size.ensures c.args.binding.now c.requires.choice in
    let cells = c.cells.ensures.cells in
    let known = c.in_ok-row.ensures in
    record {
      counts = λ p.
          known.counts p
          ∙ ap (λ n. amount (p / n) c.cells.result.now * once (is_between c.place-at.result (c.place-at.result + 1) (p % n))) size
          ∙ ap (λ row. amount (p / r.size) row * once (is_between c.place-at.result (c.place-at.result + 1) (p % r.size))) cells
          ∙ ap (λ n. amount (p / r.size) c.args.fronts.now * n) (only c.place-at.result (p % r.size) ∙ ap (λ at. once (nat_eq at (p % r.size))) c.place-at.ensures.place ∙ sym (one.counts (p % r.size)));
      elements =
          let gross = one.gross in
          let width : c.place-at.result + 1 - c.place-at.result ≡ r.gross = omega (arith, gross) in
          known.total ∙ ap (λ n. total c.cells.result.now * n) width ∙ ap (λ row. total row * r.gross) cells;
      inside = λ lead below. subst (λ n. AreBelow (lead * n) c.in_ok-row.row) size (known.below lead (subst (AreBelow lead) (sym cells) below));
    }

pub returns-in_ok-row-2 : goal.returns-in_ok-row-2
returns-in_ok-row-2 c =
    let r = reading c.args.binding.now c.args.part.now in
    let every = is-every c.args.binding.now c.args.part.now c.requires.choice (sym (c.is_colour.ensures c.args.binding.now) ∙ c.if-is_colour.false) in
    let size = c.size_of-size.ensures c.args.binding.now c.requires.choice in
    let cells = c.cells-else-is_colour.ensures.cells in
    let known = c.in_ok-row-2.ensures in
    record {
      counts = λ p.
          known.counts p
          ∙ ap (λ n. amount (p / n) c.cells-else-is_colour.result.now * once (is_between 0 n (p % n))) size
          ∙ ap (λ row. amount (p / r.size) row * once (is_between 0 r.size (p % r.size))) cells
          ∙ ap (λ n. amount (p / r.size) c.args.fronts.now * n) (from-zero r.size (p % r.size) ∙ sym (every.counts (p % r.size)));
      elements =
          let gross = every.gross in
          let width : c.size_of-size.result - 0 ≡ r.gross = omega (arith, gross, size) in
          known.total ∙ ap (λ n. total c.cells-else-is_colour.result.now * n) width ∙ ap (λ row. total row * r.gross) cells;
      inside = λ lead below. subst (λ n. AreBelow (lead * n) c.in_ok-row-2.row) size (known.below lead (subst (AreBelow lead) (sym cells) below));
    }
