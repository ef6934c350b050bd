-- Rows and markings on the places that stay, under their new numbers.
use Rattle.std.proofs.Common.{◌≡◌, ℕ, ◌<◌, ◌≤◌, Bool, true, false, cond, inl, inr, List, [], ◌∷◌, map, filter, length, get_or, arith, refl, ap, sym, ◌∙◌, slice_index}
use Rattle.std.proofs.lemmas.Bool.{cases_eq, cases_Bool, false≢true}
use Rattle.std.proofs.lemmas.List.{length-map, get_or_past, get_or-map}
use Rattle.std.proofs.lemmas.List.Elements.{All-head, All-tail}
use Rattle.wide_sums.specs.declared.rows.Cell.{Cell}
use Rattle.wide_sums.specs.Cells.{amount, count_at}
use Rattle.wide_sums.proofs.Amounts.{amount-cons, count_at-same, count_at-other, amount-none}
use Rattle.pt_net.specs.Markings.{IsInRange}
use Rattle.pt_net.specs.Systems.{NetSystem, places}
use Rattle.reductions.specs.Numbers.{numbers, rank}
use Rattle.reductions.specs.Reduced.{row_on, counts_on}
use Rattle.reductions.proofs.Numbers.{stands_at}

-- two numbers that pass and have one rank are one
pub same_rank : (n : ℕ) (test : ℕ → Bool) (p q : ℕ) → p < n → q < n → test p ≡ true → test q ≡ true → rank test p ≡ rank test q → p ≡ q
same_rank n test p q low low' passes passes' same =
    sym (stands_at n test p low passes).is ∙ ap (λ k. get_or (numbers n test) k 0) same ∙ (stands_at n test q low' passes').is

abbrev pub renumbered : (ℕ → Bool) → Cell → Cell
renumbered stays c = record { at = rank stays c.at; count = c.count }

-- one more cell
pub row_on_more : (b : Bool) (stays : ℕ → Bool) (c : Cell) (cs : List Cell) → stays c.at ≡ b → row_on stays (c ∷ cs) ≡ cond b (renumbered stays c ∷ row_on stays cs) (row_on stays cs)
row_on_more true stays c cs is = ap (λ (b : Bool). map (renumbered stays) (cond b (c ∷ filter (λ d. stays d.at) cs) (filter (λ d. stays d.at) cs))) is
row_on_more false stays c cs is = ap (λ (b : Bool). map (renumbered stays) (cond b (c ∷ filter (λ d. stays d.at) cs) (filter (λ d. stays d.at) cs))) is

-- a place that stays has the same amount under its new number
cell_on : (n : ℕ) (stays : ℕ → Bool) (p : ℕ) (c : Cell) → p < n → stays p ≡ true → c.at < n → stays c.at ≡ true → count_at (rank stays p) (renumbered stays c) ≡ count_at p c
cell_on n stays p c low stay low' stay' = elim (cases_eq c.at p) [
  | inl here ↦ count_at-same (rank stays p) (renumbered stays c) (ap (rank stays) here) ∙ sym (count_at-same p c here)
  | inr away ↦ count_at-other (rank stays p) (renumbered stays c) (λ same. away (same_rank n stays c.at p low' low stay' stay same)) ∙ sym (count_at-other p c away)
]

pub amount-on : (n : ℕ) (stays : ℕ → Bool) (p : ℕ) (row : List Cell) → p < n → stays p ≡ true → IsInRange n row → amount (rank stays p) (row_on stays row) ≡ amount p row
amount-on n stays p [] low stay in_range = refl
amount-on n stays p (c ∷ cs) low stay in_range =
    let at_first : c.at < n = All-head (λ d. d.at < n) c cs in_range in
    let rest = amount-on n stays p cs low stay (All-tail (λ d. d.at < n) c cs in_range) in
    elim (cases_Bool (stays c.at)) [
      | inl stay' ↦
          ap (amount (rank stays p)) (row_on_more true stays c cs stay')
          ∙ (let own = cell_on n stays p c low stay at_first stay' in
          let left = amount-cons (rank stays p) (renumbered stays c) (row_on stays cs) in
          let right = amount-cons p c cs in
          let whole : amount (rank stays p) (renumbered stays c ∷ row_on stays cs) ≡ amount p (c ∷ cs) = omega arith in
          whole)
      | inr gone ↦
          ap (amount (rank stays p)) (row_on_more false stays c cs gone)
          ∙ (let none = count_at-other p c (λ here. false≢true (sym gone ∙ ap stays here ∙ stay)) in
          let right = amount-cons p c cs in
          let whole : amount (rank stays p) (row_on stays cs) ≡ amount p (c ∷ cs) = omega arith in
          whole)
    ]

-- there is nothing past the places that stay
pub amount-past : (n : ℕ) (stays : ℕ → Bool) (q : ℕ) (row : List Cell) → length (numbers n stays) ≤ q → IsInRange n row → amount q (row_on stays row) ≡ 0
amount-past n stays q [] past in_range = refl
amount-past n stays q (c ∷ cs) past in_range =
    let at_first : c.at < n = All-head (λ d. d.at < n) c cs in_range in
    let rest = amount-past n stays q cs past (All-tail (λ d. d.at < n) c cs in_range) in
    elim (cases_Bool (stays c.at)) [
      | inl stay ↦
          ap (amount q) (row_on_more true stays c cs stay)
          ∙ (let low = (stands_at n stays c.at at_first stay).within in
          let none = count_at-other q (renumbered stays c) (λ here. absurd (omega arith)) in
          let left = amount-cons q (renumbered stays c) (row_on stays cs) in
          let whole : amount q (renumbered stays c ∷ row_on stays cs) ≡ 0 = omega arith in
          whole)
      | inr gone ↦ ap (amount q) (row_on_more false stays c cs gone) ∙ rest
    ]

-- outside the net a row has nothing
pub amount-outside : (n p : ℕ) (row : List Cell) → n ≤ p → IsInRange n row → amount p row ≡ 0
amount-outside n p row past in_range = amount-none p row (λ k d within. let low : (get_or row k d).at < n = in_range k d within in omega arith)

-- the counts of the places that stay
pub length-on : (net : NetSystem) (stays : ℕ → Bool) (marking : List ℕ) → length (counts_on net stays marking) ≡ length (numbers (places net) stays)
length-on net stays marking = length-map (numbers (places net) stays) (slice_index marking)

pub count-at : (net : NetSystem) (stays : ℕ → Bool) (marking : List ℕ) (p : ℕ) → p < places net → stays p ≡ true → slice_index (counts_on net stays marking) (rank stays p) ≡ slice_index marking p
count-at net stays marking p low stay =
    let at = stands_at (places net) stays p low stay in
    get_or-map (slice_index marking) (numbers (places net) stays) (rank stays p) 0 0 at.within ∙ ap (slice_index marking) at.is

pub count-past : (net : NetSystem) (stays : ℕ → Bool) (marking : List ℕ) (q : ℕ) → length (numbers (places net) stays) ≤ q → slice_index (counts_on net stays marking) q ≡ 0
count-past net stays marking q past = let long = length-on net stays marking in get_or_past (counts_on net stays marking) q 0 (omega arith)
