-- How much a row has at a place, from its cells.
use Rattle.std.proofs.Common.{◌≡◌, ◌≢◌, ℕ, zero, suc, ◌+◌, ◌<◌, ◌≤◌, inl, inr, List, [], ◌∷◌, length, get_or, arith, refl, ap}
use Rattle.std.specs.Prelude.{◌-◌, ◌^◌, All}
use Rattle.std.proofs.lemmas.List.Elements.{All-head, All-tail}
use Rattle.std.proofs.lemmas.List.Sums.{sum_by-cons}
use Rattle.std.proofs.lemmas.Bool.{cases_eq}
use Rattle.std.proofs.lemmas.Bool.Decides.{nat_tests}
use Rattle.wide_sums.specs.declared.rows.Cell.{Cell}
use Rattle.wide_sums.specs.Cells.{count_at, amount, IsRising, IsRow}

-- one more cell in front
pub amount-cons : (p : ℕ) (c : Cell) (cs : List Cell) → amount p (c ∷ cs) ≡ count_at p c + amount p cs
amount-cons p c cs = sum_by-cons (count_at p) c cs

-- what a cell adds at its own place, and at another one
pub count_at-same : (p : ℕ) (c : Cell) → c.at ≡ p → count_at p c ≡ c.count
count_at-same p c here = grind (arith, nat_tests)

pub count_at-other : (p : ℕ) (c : Cell) → c.at ≢ p → count_at p c ≡ 0
count_at-other p c away = grind (arith, nat_tests)

-- a row without a cell at the place has nothing there
pub amount-none : (p : ℕ) (cells : List Cell) → All (λ c. c.at ≢ p) cells → amount p cells ≡ 0
amount-none p [] away = refl
amount-none p (c ∷ cs) away =
    let rest = amount-none p cs (All-tail (λ d. d.at ≢ p) c cs away) in
    let first = count_at-other p c (All-head (λ d. d.at ≢ p) c cs away) in
    omega (arith, amount-cons p c cs)

-- the cells behind the first one rise too, from above its place
pub rising_behind : (c : Cell) (cs : List Cell) → IsRising (c ∷ cs) → IsRising cs
rising_behind c cs rising = λ i j d below within. rising (suc i) (suc j) d (omega arith) (omega arith)

pub above_first : (c : Cell) (cs : List Cell) → IsRising (c ∷ cs) → All (λ d. c.at < d.at) cs
above_first c cs rising = λ k d within. rising 0 (suc k) d (omega arith) (omega arith)

-- behind the first cell nothing is at its place
pub amount-behind : (c : Cell) (cs : List Cell) → IsRising (c ∷ cs) → amount c.at cs ≡ 0
amount-behind c cs rising = amount-none c.at cs (λ k d within. let above : c.at < (get_or cs k d).at = above_first c cs rising k d within in omega arith)

-- where a row has a cell, it has that cell's count
pub amount-at : (cells : List Cell) (i : ℕ) (d : Cell) → IsRising cells → i < length cells → amount (get_or cells i d).at cells ≡ (get_or cells i d).count
amount-at [] i d rising within = absurd (omega arith)
amount-at (c ∷ cs) zero d rising within =
    let own = count_at-same c.at c refl in
    let rest = amount-behind c cs rising in
    omega (arith, amount-cons c.at c cs)
amount-at (c ∷ cs) (suc i) d rising within =
    let inside : i < length cs = omega arith in
    let above : c.at < (get_or cs i d).at = above_first c cs rising i d inside in
    let other = count_at-other (get_or cs i d).at c (omega arith) in
    let rest = amount-at cs i d (rising_behind c cs rising) inside in
    omega (arith, amount-cons (get_or cs i d).at c cs)

-- a first cell that is within a bound, before a row that is
pub amount-within_first : (p most : ℕ) (c : Cell) (cs : List Cell) → IsRising (c ∷ cs) → (c.at ≡ p → c.count ≤ most) → amount p cs ≤ most → amount p (c ∷ cs) ≤ most
amount-within_first p most c cs rising first rest =
    elim (cases_eq c.at p) [
      | inl here ↦
          let own = count_at-same p c here in
          let behind = amount-behind c cs rising in
          let moved = ap (λ q. amount q cs) here in
          omega (arith, amount-cons p c cs, first here)
      | inr away ↦
          let other = count_at-other p c away in
          omega (arith, amount-cons p c cs)
    ]

-- where each cell at the place is within a bound, so is the row
pub amount-within : (p most : ℕ) (cells : List Cell) → IsRising cells → All (λ c. c.at ≡ p → c.count ≤ most) cells → amount p cells ≤ most
amount-within p most [] rising fits = omega arith
amount-within p most (c ∷ cs) rising fits =
    amount-within_first p most c cs rising
    (All-head (λ d. d.at ≡ p → d.count ≤ most) c cs fits)
    (amount-within p most cs (rising_behind c cs rising) (All-tail (λ d. d.at ≡ p → d.count ≤ most) c cs fits))

-- a row has at most 2^63 - 1 at each place
pub amount-row : (p : ℕ) (cells : List Cell) → IsRow cells → amount p cells < 2 ^ 63
amount-row p cells row =
    let fits = amount-within p (2 ^ 63 - 1) cells row.rising (λ k d within here. let own : (get_or cells k d).count < 2 ^ 63 = (row.counted k d within).1 in omega arith) in
    omega arith
