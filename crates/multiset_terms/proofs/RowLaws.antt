-- Rows that grow at their ends.
use Rattle.std.proofs.Common.{◌≡◌, ℕ, ◌+◌, ◌<◌, List, length, get_or, take, arith}
use Rattle.std.proofs.lemmas.List.{get_or-take, length-take}
use Rattle.wide_sums.specs.declared.rows.Cell.{Cell}
use Rattle.multiset_terms.specs.Rows.{AreBelow}

-- what is below a bound among one more cell
pub below-more : (size : ℕ) (cells : List Cell) (i : ℕ) (d : Cell) → i < length cells → AreBelow size (take (i + 1) cells)
    → AreBelow size (take i cells) × ((get_or cells i d).at < size)
below-more size cells i d within below =
    let long = length-take (i + 1) cells in
    let short = length-take i cells in
    let last : (get_or (take (i + 1) cells) i d).at < size = below i d (omega arith) in (
      (λ k e h. rw (get_or-take i cells k e (omega arith)) (rw (get_or-take (i + 1) cells k e (omega arith)) at (below k e (omega arith)))),
      rw (get_or-take (i + 1) cells i d (omega arith)) at last,
    )
