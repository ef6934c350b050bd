-- What the packed entries say of the rows.
use Rattle.std.proofs.Common.{◌≡◌, ◌≢◌, ℕ, zero, suc, ◌+◌, ◌<◌, ◌≤◌, Bool, true, false, cond, nat_lt, inl, inr, List, [], ◌∷◌, length, map, filter, arith, refl, ap, ◌∙◌, All, AllPairs, count_by}
use Rattle.std.proofs.lemmas.Bool.{cases_lt, cases_eq, eq-eqb, ne_eqb}
use Rattle.std.proofs.lemmas.List.Elements.{All-head, All-tail}
use Rattle.wide_sums.specs.declared.rows.Cell.{Cell}
use Rattle.wide_sums.specs.Cells.{amount, count_at}
use Rattle.wide_sums.proofs.Amounts.{amount-cons, count_at-same, count_at-other}
use Rattle.pt_net.specs.declared.packed.Entry.{Entry}
use Rattle.pt_net.specs.Packing.{cell_of, is_of, IsEarlier, entry_at}
use Rattle.pt_net.proofs.Lower.{count_lower, count_upper}

abbrev row_of : ℕ → List Entry → List Cell
row_of i entries = map cell_of (filter (is_of i) entries)

row_of_more : (b : Bool) (i : ℕ) (e : Entry) (es : List Entry) → is_of i e ≡ b → row_of i (e ∷ es) ≡ cond b (cell_of e ∷ row_of i es) (row_of i es)
row_of_more true i e es is = ap (λ (b : Bool). map cell_of (cond b (e ∷ filter (is_of i) es) (filter (is_of i) es))) is
row_of_more false i e es is = ap (λ (b : Bool). map cell_of (cond b (e ∷ filter (is_of i) es) (filter (is_of i) es))) is

row_of_own : (i p : ℕ) (e : Entry) (es : List Entry) → e.instance ≡ i → amount p (row_of i (e ∷ es)) ≡ count_at p (cell_of e) + amount p (row_of i es)
row_of_own i p e es own = ap (amount p) (row_of_more true i e es (eq-eqb e.instance i own)) ∙ amount-cons p (cell_of e) (row_of i es)

row_of_other : (i p : ℕ) (e : Entry) (es : List Entry) → e.instance ≢ i → amount p (row_of i (e ∷ es)) ≡ amount p (row_of i es)
row_of_other i p e es other = ap (amount p) (row_of_more false i e es (ne_eqb e.instance i other))

-- an entry is in the row of its instance
pub entry_in_row : (es : List Entry) (i k : ℕ) → k < length es → (entry_at es k).instance ≡ i → (entry_at es k).weight ≤ amount (entry_at es k).place (row_of i es)
entry_in_row [] i k low own = absurd (omega arith)
entry_in_row (e ∷ es) i zero low own =
    let sum = row_of_own i e.place e es own in
    let here = count_at-same e.place (cell_of e) refl in
    omega arith
entry_in_row (e ∷ es) i (suc k) low own =
    let rest = entry_in_row es i k (omega arith) own in
    elim (cases_eq e.instance i) [
      | inl also ↦ let sum = row_of_own i (entry_at es k).place e es also in omega arith
      | inr other ↦ let sum = row_of_other i (entry_at es k).place e es other in omega arith
    ]

-- what a row has at a place, an entry says
pub record Says (es : List Entry) (i p k : ℕ) : Type 0 where
  pub low : k < length es
  pub own : (entry_at es k).instance ≡ i
  pub at : (entry_at es k).place ≡ p

says_more : (e : Entry) (es : List Entry) (i p : ℕ) → (k : ℕ) × Says es i p k → (k : ℕ) × Says (e ∷ es) i p k
says_more e es i p found = (suc found.0, record { low = (let l = found.1.low in omega arith); own = found.1.own; at = found.1.at })

pub entry_of_row : (es : List Entry) (i p : ℕ) → 0 < amount p (row_of i es) → (k : ℕ) × Says es i p k
entry_of_row [] i p some = absurd (omega arith)
entry_of_row (e ∷ es) i p some = elim (cases_eq e.instance i) [
  | inl own ↦ elim (cases_eq e.place p) [
    | inl here ↦ (0, record { low = omega arith; own = own; at = here })
    | inr away ↦
        let sum = row_of_own i p e es own in
        let none = count_at-other p (cell_of e) away in
        says_more e es i p (entry_of_row es i p (omega arith))
  ]
  | inr other ↦ let sum = row_of_other i p e es other in says_more e es i p (entry_of_row es i p (omega arith))
]

-- the entries of lower places stand first
earlier_behind : (e : Entry) (es : List Entry) → AllPairs IsEarlier (e ∷ es) → AllPairs IsEarlier es
earlier_behind e es rising = λ i j d below within. rising (suc i) (suc j) d (omega arith) (omega arith)

none_lower : (e : Entry) (es : List Entry) (p : ℕ) → p ≤ e.place → All (λ f. e.place ≤ f.place) es → count_by (λ f. nat_lt f.place p) es ≡ 0
none_lower e [] p past above = refl
none_lower e (f ∷ es) p past above =
    let first : e.place ≤ f.place = All-head (λ g. e.place ≤ g.place) f es above in
    count_upper p f es (omega arith) ∙ none_lower e es p past (All-tail (λ g. e.place ≤ g.place) f es above)

-- the entries of lower places stand before that number, and the others from it on
pub record Parted (es : List Entry) (p k : ℕ) : Type 0 where
  pub below : k < count_by (λ f. nat_lt f.place p) es → (entry_at es k).place < p
  pub from : (entry_at es k).place < p → k < count_by (λ f. nat_lt f.place p) es

parted_lower : (e : Entry) (es : List Entry) (p k : ℕ) → e.place < p → count_by (λ f. nat_lt f.place p) (e ∷ es) ≡ suc (count_by (λ f. nat_lt f.place p) es) → k < length (e ∷ es) → ((j : ℕ) → j < length es → Parted es p j) → Parted (e ∷ es) p k
parted_lower e es p zero lower count low rest = record { below = λ before. lower; from = λ is. omega arith }
parted_lower e es p (suc k) lower count low rest =
    let behind = rest k (omega arith) in
    record { below = λ before. behind.below (omega arith); from = λ is. (let b = behind.from is in omega arith) }

parted_upper : (e : Entry) (es : List Entry) (k : ℕ) → AllPairs IsEarlier (e ∷ es) → k < length (e ∷ es) → e.place ≤ (entry_at (e ∷ es) k).place
parted_upper e es zero rising low = omega arith
parted_upper e es (suc k) rising low = (rising 0 (suc k) (record { place = 0; instance = 0; weight = 0 }) (omega arith) low).place

pub parted : (es : List Entry) (p k : ℕ) → AllPairs IsEarlier es → k < length es → Parted es p k
parted [] p k rising low = absurd (omega arith)
parted (e ∷ es) p k rising low = elim (cases_lt e.place p) [
  | inl lower ↦ let count = count_lower p e es lower in parted_lower e es p k lower count low (λ j within. parted es p j (earlier_behind e es rising) within)
  | inr upper ↦
      let count = count_upper p e es upper ∙ none_lower e es p upper (λ j d within. (rising 0 (suc j) d (omega arith) (omega arith)).place) in
      record {
        below = λ before. absurd (omega arith);
        from = λ lower. let above = parted_upper e es k rising low in absurd (omega arith);
      }
]
