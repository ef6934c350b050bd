-- Rows of counts, and that rows with the same amounts are the same.
use Rattle.std.proofs.Common.{◌≡◌, ℕ, zero, suc, ◌+◌, ◌<◌, ◌≤◌, ◌^◌, inl, inr, List, [], ◌∷◌, length, get_or, arith, refl, ap, subst, sym, ◌∙◌, All, slice_index}
use Rattle.std.proofs.lemmas.Bool.{cases_lt}
use Rattle.std.proofs.lemmas.List.Elements.{All-head, All-tail, All-nil, All-cons}
use Rattle.std.proofs.lemmas.List.Kept.{AllPairs-cons}
use Rattle.wide_sums.specs.declared.rows.Cell.{Cell}
use Rattle.wide_sums.specs.Cells.{amount, count_at, IsRow, IsRising, IsCounted}
use Rattle.wide_sums.proofs.Amounts.{amount-cons, amount-row, count_at-same, count_at-other, amount-none, amount-behind, above_first, rising_behind}
use Rattle.pt_net.specs.Markings.{IsInRange}
use Rattle.net_firing.specs.Unfolding.{cells_from, row_of}

abbrev cell : ℕ → ℕ → Cell
cell at n = record { at = at; count = suc n }

-- nothing is below the first place
below : (at : ℕ) (counts : List ℕ) (p : ℕ) → p < at → amount p (cells_from at counts) ≡ 0
below at [] p low = refl
below at (zero ∷ more) p low = below (at + 1) more p (omega (arith, low))
below at (suc n ∷ more) p low =
    let first = count_at-other p (cell at n) (λ same. absurd (omega (arith, low, same))) in
    let rest = below (at + 1) more p (omega (arith, low)) in
    omega (arith, amount-cons p (cell at n) (cells_from (at + 1) more), first, rest)

from : (at : ℕ) (counts : List ℕ) (q p : ℕ) → at + q ≡ p → amount p (cells_from at counts) ≡ slice_index counts q
from at [] q p e = refl
from at (zero ∷ more) zero p e = below (at + 1) more p (omega (arith, e))
from at (zero ∷ more) (suc q) p e = from (at + 1) more q p (omega (arith, e))
from at (suc n ∷ more) zero p e =
    let here : at ≡ p = omega (arith, e) in
    let first = count_at-same p (cell at n) here in
    let rest = below (at + 1) more p (omega (arith, e)) in
    omega (arith, amount-cons p (cell at n) (cells_from (at + 1) more), first, rest)
from at (suc n ∷ more) (suc q) p e =
    let first = count_at-other p (cell at n) (λ same. absurd (omega (arith, e, same))) in
    let rest = from (at + 1) more q p (omega (arith, e)) in
    omega (arith, amount-cons p (cell at n) (cells_from (at + 1) more), first, rest)

pub amounts : (counts : List ℕ) (p : ℕ) → amount p (row_of counts) ≡ slice_index counts p
amounts counts p = from 0 counts p p (omega arith)

above : (low at : ℕ) (counts : List ℕ) → low ≤ at → All (λ c. low ≤ c.at) (cells_from at counts)
above low at [] le = All-nil (λ c. low ≤ c.at)
above low at (zero ∷ more) le = above low (at + 1) more (omega (arith, le))
above low at (suc n ∷ more) le = All-cons (λ c. low ≤ c.at) (cell at n) (cells_from (at + 1) more) le (above low (at + 1) more (omega (arith, le)))

within : (at : ℕ) (counts : List ℕ) (n : ℕ) → at + length counts ≤ n → All (λ c. c.at < n) (cells_from at counts)
within at [] n le = All-nil (λ c. c.at < n)
within at (zero ∷ more) n le = within (at + 1) more n (omega (arith, le))
within at (suc k ∷ more) n le = All-cons (λ c. c.at < n) (cell at k) (cells_from (at + 1) more) (omega (arith, le)) (within (at + 1) more n (omega (arith, le)))

pub in_range : (counts : List ℕ) → IsInRange (length counts) (row_of counts)
in_range counts = within 0 counts (length counts) (omega arith)

rising : (at : ℕ) (counts : List ℕ) → IsRising (cells_from at counts)
rising at [] = λ i j d lt inside. absurd (omega (arith, lt, inside))
rising at (zero ∷ more) = rising (at + 1) more
rising at (suc n ∷ more) = AllPairs-cons (λ a b. a.at < b.at) (cell at n) (cells_from (at + 1) more)
    (λ k d inside. (let over = above (at + 1) (at + 1) more (omega arith) k d inside in omega (arith, over)))
    (rising (at + 1) more)

counted : (at : ℕ) (counts : List ℕ) → All (λ n. n < 2 ^ 63) counts → IsCounted (cells_from at counts)
counted at [] small = All-nil (λ c. (0 < c.count) × (c.count < 2 ^ 63))
counted at (zero ∷ more) small = counted (at + 1) more (All-tail (λ n. n < 2 ^ 63) zero more small)
counted at (suc n ∷ more) small = All-cons (λ c. (0 < c.count) × (c.count < 2 ^ 63)) (cell at n) (cells_from (at + 1) more)
    (omega arith, All-head (λ n. n < 2 ^ 63) (suc n) more small) (counted (at + 1) more (All-tail (λ n. n < 2 ^ 63) (suc n) more small))

pub is_row : (counts : List ℕ) → All (λ n. n < 2 ^ 63) counts → IsRow (row_of counts)
is_row counts small = record { rising = rising 0 counts; counted = counted 0 counts small }

-- rows with the same amounts everywhere are the same lists of cells
behind_none : (c : Cell) (cs : List Cell) (p : ℕ) → IsRising (c ∷ cs) → p < c.at → amount p (c ∷ cs) ≡ 0
behind_none c cs p rises low =
    let first = count_at-other p c (λ same. absurd (omega (arith, low, same))) in
    let rest = amount-none p cs (λ k d inside same. let over : c.at < (get_or cs k d).at = above_first c cs rises k d inside in absurd (omega (arith, over, low, same))) in
    omega (arith, amount-cons p c cs, first, rest)

head_amount : (c : Cell) (cs : List Cell) → IsRising (c ∷ cs) → amount c.at (c ∷ cs) ≡ c.count
head_amount c cs rises = let own = count_at-same c.at c refl in let rest = amount-behind c cs rises in omega (arith, amount-cons c.at c cs, own, rest)

row_tail : (c : Cell) (cs : List Cell) → IsRow (c ∷ cs) → IsRow cs
row_tail c cs row = record { rising = rising_behind c cs row.rising; counted = All-tail (λ d. (0 < d.count) × (d.count < 2 ^ 63)) c cs row.counted }

head_some : (c : Cell) (cs : List Cell) → IsRow (c ∷ cs) → 0 < c.count
head_some c cs row = (All-head (λ d. (0 < d.count) × (d.count < 2 ^ 63)) c cs row.counted).0

not_below : (c d : Cell) (cs ds : List Cell) → IsRow (c ∷ cs) → IsRow (d ∷ ds) → amount c.at (c ∷ cs) ≡ amount c.at (d ∷ ds) → d.at ≤ c.at
not_below c d cs ds one two same = elim (cases_lt c.at d.at) [
  | inl low ↦ absurd (omega (arith, behind_none d ds c.at two.rising low, head_amount c cs one.rising, head_some c cs one, same))
  | inr over ↦ over
]

same_cells : (c d : Cell) → c.at ≡ d.at → c.count ≡ d.count → c ≡ d
same_cells c d at count = ap (λ (n : ℕ). let e : Cell = record { at = n; count = c.count } in e) at ∙ ap (λ (n : ℕ). let e : Cell = record { at = d.at; count = n } in e) count

pub same_rows : (a b : List Cell) → IsRow a → IsRow b → ((p : ℕ) → amount p a ≡ amount p b) → a ≡ b
same_rows [] [] one two same = refl
same_rows [] (d ∷ ds) one two same = absurd (omega (arith, same d.at, head_amount d ds two.rising, head_some d ds two))
same_rows (c ∷ cs) [] one two same = absurd (omega (arith, same c.at, head_amount c cs one.rising, head_some c cs one))
same_rows (c ∷ cs) (d ∷ ds) one two same =
    let low = not_below c d cs ds one two (same c.at) in
    let high = not_below d c ds cs two one (sym (same d.at)) in
    let at : c.at ≡ d.at = omega (arith, low, high) in
    let moved = ap (λ p. amount p (d ∷ ds)) at in
    let cells = same_cells c d at (omega (arith, head_amount c cs one.rising, head_amount d ds two.rising, moved, same c.at)) in
    let rest = same_rows cs ds (row_tail c cs one) (row_tail d ds two) (λ p.
    let first = ap (λ (e : Cell). count_at p e) cells in
    omega (arith, same p, first, amount-cons p c cs, amount-cons p d ds)) in
    ap (λ (e : Cell). e ∷ cs) cells ∙ ap (λ (es : List Cell). d ∷ es) rest

pub told : (counts : List ℕ) (cells : List Cell) → IsRow cells → ((p : ℕ) → amount p cells ≡ slice_index counts p) → cells ≡ row_of counts
told counts cells row same =
    let small : All (λ n. n < 2 ^ 63) counts = λ k d inside. subst (λ n. n < 2 ^ 63) (same k ∙ one counts k d inside) (amount-row k cells row) in
    same_rows cells (row_of counts) row (is_row counts small) (λ p. same p ∙ sym (amounts counts p))
  where
    one : (xs : List ℕ) (k d : ℕ) → k < length xs → slice_index xs k ≡ get_or xs k d
    one [] k d inside = absurd (omega (arith, inside))
    one (x ∷ xs) zero d inside = refl
    one (x ∷ xs) (suc k) d inside = one xs k d (omega (arith, inside))
