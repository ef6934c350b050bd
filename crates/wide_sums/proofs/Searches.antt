-- What a binary search for a place finds in a row.
use Rattle.std.proofs.Common.{◌≡◌, ℕ, ◌<◌, ◌≤◌, List, length, get_or, arith, ap, ◌∙◌, sym, inl, inr}
use Rattle.std.specs.Ordering.{nat_cmp, ordering_index}
use Rattle.std.specs.declared.cmp.Ordering.TheVariants.{Less, Equal, Greater}
use Rattle.std.specs.List.Sorted.{IsNonDecreasingBy, IsPartitionPoint}
use Rattle.std.proofs.lemmas.Bool.{cases_lt}
use Rattle.std.proofs.lemmas.Bool.Decides.{nat_tests}
use Rattle.wide_sums.specs.declared.rows.Cell.{Cell}
use Rattle.wide_sums.specs.Cells.{amount, IsRising}
use Rattle.wide_sums.proofs.Amounts.{amount-at, amount-none}

equal_is : (a p : ℕ) → nat_cmp a p ≡ Equal → a ≡ p
equal_is a p e = grind (arith, nat_tests)

less_is : (a p : ℕ) → nat_cmp a p ≡ Less → a < p
less_is a p e = grind (arith, nat_tests)

greater_is : (a p : ℕ) → nat_cmp a p ≡ Greater → p < a
greater_is a p e = grind (arith, nat_tests)

higher : (a b p : ℕ) → a ≤ b → ordering_index (nat_cmp a p) ≤ ordering_index (nat_cmp b p)
higher a b p le = grind (arith, nat_tests)

-- the places rise, each with itself too
rises : (cells : List Cell) (i j : ℕ) (d : Cell) → IsRising cells → i ≤ j → j < length cells → (get_or cells i d).at ≤ (get_or cells j d).at
rises cells i j d rising le within =
    elim (cases_lt i j) [
      | inl below ↦ let lower : (get_or cells i d).at < (get_or cells j d).at = rising i j d below within in omega arith
      | inr above ↦
          let same : i ≡ j = omega arith in
          let equal = ap (λ k. (get_or cells k d).at) same in
          omega arith
    ]

-- a cell that was found
pub amount-found : (p : ℕ) (cells : List Cell) (i : ℕ) (c : Cell) → IsRising cells → i < length cells → c ≡ get_or cells i c → nat_cmp (get_or cells i c).at p ≡ Equal → c.count ≡ amount p cells
amount-found p cells i c rising within is found =
    let here = equal_is (get_or cells i c).at p found in
    let whole = amount-at cells i c rising within in
    ap (λ (d : Cell). d.count) is ∙ sym whole ∙ ap (λ q. amount q cells) here

-- a place that was not
pub amount-missing : (p : ℕ) (cells : List Cell) (i : ℕ) → IsRising cells → (IsNonDecreasingBy (λ y. ordering_index (nat_cmp y.at p)) cells → IsPartitionPoint (λ y. nat_cmp y.at p ≡ Less) (λ y. nat_cmp y.at p ≡ Greater) cells i) → 0 ≡ amount p cells
amount-missing p cells i rising search_says =
    let parted = search_says (λ a b d le within. higher (get_or cells a d).at (get_or cells b d).at p (rises cells a b d rising le within)) in
    sym (amount-none p cells (λ k d within. elim (cases_lt k i) [
      | inl below ↦ let lower = less_is (get_or cells k d).at p (parted.0 k d (omega arith) below) in omega arith
      | inr above ↦ let upper = greater_is (get_or cells k d).at p (parted.1 k d above within) in omega arith
    ]))
