-- A total over all places is that of the places where there is something.
use Rattle.std.proofs.Common.{◌≡◌, ◌≢◌, ℕ, zero, suc, ◌+◌, ◌<◌, ◌≤◌, Bool, true, false, cond, List, [], ◌∷◌, ◌++◌, map, ℤ, pos, ◌*ℤ◌, neg_ℤ, refl, sym, ◌∙◌, ap, arith, nat_eq, inl, inr}
use Rattle.std.specs.Prelude.{All, AllPairs}
use Rattle.std.specs.Bool.{⊤}
use Rattle.std.specs.List.{range_with_len}
use Rattle.std.proofs.lemmas.Int.{ints}
use Rattle.std.proofs.lemmas.Bool.{cases_eq}
use Rattle.std.proofs.lemmas.List.Elements.{All-head, All-tail}
use Rattle.std.proofs.lemmas.Simd.{map-map}
use Rattle.wide_sums.specs.Total.{Total, zero_total, with_term, joined, total_of}
use Rattle.wide_sums.specs.Cells.{amount}
use Rattle.wide_sums.proofs.Amounts.{amount-cons, count_at-same, count_at-other, amount-behind, rising_behind}
use Rattle.wide_sums.specs.Cells.{IsRising}
use Rattle.wide_sums.proofs.Totals.{same_total, total_of-append}
use Rattle.wide_sums.specs.declared.rows.Cell.{Cell}
use Rattle.cert_model.specs.Sums.{products}
use Rattle.cert_model.proofs.Weights.{mul_zero}
use Rattle.linear_cert.specs.declared.forms.Term.{Term}
use Rattle.linear_cert.specs.Sparse.{coefficient_in}
use Rattle.linear_cert.specs.Fitting.{signed}
use Rattle.linear_cert.specs.Checks.{cell_term, weighted}
use Rattle.linear_cert.proofs.Searches.{same_is_true, apart_is_false}

-- what a list has for a key: that of the first element with the key, else 0
abbrev pub looked : {X : Type 0} → (X → ℕ) → (X → ℤ) → List X → ℕ → ℤ
looked key value [] p = pos 0
looked key value (x ∷ xs) p = cond (nat_eq (key x) p) (value x) (looked key value xs p)

-- the keys rise strictly from `first` on and stay below `last`
abbrev pub RiseFrom : {X : Type 0} → (X → ℕ) → ℕ → ℕ → List X → Type 0
RiseFrom key first last [] = ⊤
RiseFrom key first last (x ∷ xs) = (first ≤ key x) × (key x < last) × RiseFrom key (suc (key x)) last xs

pub rise_from : {X : Type 0} (key : X → ℕ) (first last : ℕ) (xs : List X) → AllPairs (λ a b. key a < key b) xs → All (λ x. first ≤ key x) xs → All (λ x. key x < last) xs → RiseFrom key first last xs
rise_from key first last [] rising above below = tt
rise_from key first last (x ∷ xs) rising above below = (
  All-head (λ y. first ≤ key y) x xs above,
  All-head (λ y. key y < last) x xs below,
  rise_from key (suc (key x)) last xs
      (λ i j d before within. rising (suc i) (suc j) d (omega arith) (omega arith))
      (λ k d within. rising 0 (suc k) d (omega arith) (omega arith))
      (All-tail (λ y. key y < last) x xs below),
)

rise_earlier : {X : Type 0} (key : X → ℕ) (first other last : ℕ) (xs : List X) → other ≤ first → RiseFrom key first last xs → RiseFrom key other last xs
rise_earlier key first other last [] le rise = tt
rise_earlier key first other last (x ∷ xs) le rise = (omega (arith, rise.0), rise.1, rise.2)

looked-here : {X : Type 0} (key : X → ℕ) (value : X → ℤ) (x : X) (xs : List X) (p : ℕ) → key x ≡ p → looked key value (x ∷ xs) p ≡ value x
looked-here key value x xs p here = ap (λ b. cond b (value x) (looked key value xs p)) (same_is_true (key x) p here)

looked-away : {X : Type 0} (key : X → ℕ) (value : X → ℤ) (x : X) (xs : List X) (p : ℕ) → key x ≢ p → looked key value (x ∷ xs) p ≡ looked key value xs p
looked-away key value x xs p away = ap (λ b. cond b (value x) (looked key value xs p)) (apart_is_false (key x) p away)

looked-below : {X : Type 0} (key : X → ℕ) (value : X → ℤ) (first last : ℕ) (xs : List X) (p : ℕ) → RiseFrom key first last xs → p < first → looked key value xs p ≡ pos 0
looked-below key value first last [] p rise below = refl
looked-below key value first last (x ∷ xs) p rise below =
    let away : key x ≢ p = omega (arith, rise.0) in
    looked-away key value x xs p away ∙ looked-below key value (suc (key x)) last xs p rise.2 (omega (arith, rise.0))

pub no_term : (rest : Total) → with_term rest (pos 0) ≡ rest
no_term rest = same_total (with_term rest (pos 0)) rest (omega (arith, ints)) (omega arith)

-- from above its key on, the first element isn't met
behind : {X : Type 0} (key : X → ℕ) (value : X → ℤ) (x : X) (xs : List X) (n first : ℕ) → key x < first
    → total_of (map (looked key value (x ∷ xs)) (range_with_len first n)) ≡ total_of (map (looked key value xs) (range_with_len first n))
behind key value x xs zero first below = refl
behind key value x xs (suc n) first below =
    let away : key x ≢ first = omega arith in
    ap (with_term (total_of (map (looked key value (x ∷ xs)) (range_with_len (first + 1) n)))) (looked-away key value x xs first away)
    ∙ ap (λ t. with_term t (looked key value xs first)) (behind key value x xs n (first + 1) (omega arith))

pub total_of-looked : {X : Type 0} (key : X → ℕ) (value : X → ℤ) (n first last : ℕ) (xs : List X) → RiseFrom key first last xs → last ≤ first + n
    → total_of (map (looked key value xs) (range_with_len first n)) ≡ total_of (map value xs)
total_of-looked key value zero first last [] rise within = refl
total_of-looked key value zero first last (x ∷ xs) rise within = absurd (omega (arith, rise.0, rise.1))
total_of-looked key value (suc n) first last [] rise within =
    ap (λ t. with_term t (pos 0)) (total_of-looked key value n (first + 1) last [] tt (omega arith)) ∙ no_term zero_total
total_of-looked key value (suc n) first last (x ∷ xs) rise within =
    elim (cases_eq (key x) first) [
      | inl here ↦
          ap (with_term (total_of (map (looked key value (x ∷ xs)) (range_with_len (first + 1) n)))) (looked-here key value x xs first here)
          ∙ ap (λ t. with_term t (value x)) (behind key value x xs n (first + 1) (omega arith)
          ∙ total_of-looked key value n (first + 1) last xs (rise_earlier key (suc (key x)) (first + 1) last xs (omega arith) rise.2) (omega arith))
      | inr away ↦
          let above : first < key x = omega (arith, rise.0) in
          ap (with_term (total_of (map (looked key value (x ∷ xs)) (range_with_len (first + 1) n))))
          (looked-away key value x xs first away ∙ looked-below key value (suc (key x)) last xs first rise.2 (omega arith))
          ∙ no_term (total_of (map (looked key value (x ∷ xs)) (range_with_len (first + 1) n)))
          ∙ total_of-looked key value n (first + 1) last (x ∷ xs) (omega arith, rise.1, rise.2) (omega arith)
    ]

pub map_same : {X Y : Type 0} (f g : X → Y) (xs : List X) → ((x : X) → f x ≡ g x) → map f xs ≡ map g xs
map_same f g [] same = refl
map_same f g (x ∷ xs) same = ap (λ y. y ∷ map f xs) (same x) ∙ ap (λ ys. g x ∷ ys) (map_same f g xs same)

signed-zero : (is_taken : Bool) → signed is_taken (pos 0) ≡ pos 0
signed-zero true = refl
signed-zero false = refl

-- a row's count at a place, times the coefficient there
row_looked : (is_taken : Bool) (weight : ℕ → ℤ) (cells : List Cell) (p : ℕ) → IsRising cells
    → signed is_taken (weight p *ℤ pos (amount p cells)) ≡ looked (λ c. c.at) (cell_term is_taken weight) cells p
row_looked is_taken weight [] p rising = ap (signed is_taken) (mul_zero (weight p)) ∙ signed-zero is_taken
row_looked is_taken weight (c ∷ cs) p rising =
    elim (cases_eq c.at p) [
      | inl here ↦
          let own = count_at-same p c here in
          let rest = amount-behind c cs rising in
          let moved = ap (λ q. amount q cs) here in
          let count : amount p (c ∷ cs) ≡ c.count = omega (arith, amount-cons p c cs, own, rest, moved) in
          ap (λ n. signed is_taken (weight p *ℤ pos n)) count
          ∙ ap (λ q. signed is_taken (weight q *ℤ pos c.count)) (sym here)
          ∙ sym (looked-here (λ (d : Cell). d.at) (cell_term is_taken weight) c cs p here)
      | inr away ↦
          let count : amount p (c ∷ cs) ≡ amount p cs = omega (arith, amount-cons p c cs, count_at-other p c away) in
          ap (λ n. signed is_taken (weight p *ℤ pos n)) count
          ∙ row_looked is_taken weight cs p (rising_behind c cs rising)
          ∙ sym (looked-away (λ (d : Cell). d.at) (cell_term is_taken weight) c cs p away)
    ]

-- the terms of a row, place by place, are those of its cells
pub total_of-row : (is_taken : Bool) (weight : ℕ → ℤ) (n : ℕ) (cells : List Cell) → IsRising cells → All (λ c. c.at < n) cells
    → total_of (map (λ p. signed is_taken (weight p *ℤ pos (amount p cells))) (range_with_len 0 n)) ≡ total_of (map (cell_term is_taken weight) cells)
total_of-row is_taken weight n cells rising within =
    ap total_of (map_same (λ p. signed is_taken (weight p *ℤ pos (amount p cells))) (looked (λ (c : Cell). c.at) (cell_term is_taken weight) cells) (range_with_len 0 n) (λ p. row_looked is_taken weight cells p rising))
    ∙ total_of-looked (λ (c : Cell). c.at) (cell_term is_taken weight) n 0 n cells (rise_from (λ (c : Cell). c.at) 0 n cells rising (λ k d inside. omega arith) within) (omega arith)

term_looked : (counts : ℕ → ℕ) (terms : List Term) (p : ℕ) → coefficient_in terms p *ℤ pos (counts p) ≡ looked (λ t. t.place) (weighted counts) terms p
term_looked counts [] p = omega (arith, ints)
term_looked counts (t ∷ ts) p =
    elim (cases_eq t.place p) [
      | inl here ↦
          ap (λ b. cond b t.value (coefficient_in ts p) *ℤ pos (counts p)) (same_is_true t.place p here)
          ∙ ap (λ q. t.value *ℤ pos (counts q)) (sym here)
          ∙ sym (looked-here (λ (s : Term). s.place) (weighted counts) t ts p here)
      | inr away ↦
          ap (λ b. cond b t.value (coefficient_in ts p) *ℤ pos (counts p)) (apart_is_false t.place p away)
          ∙ term_looked counts ts p
          ∙ sym (looked-away (λ (s : Term). s.place) (weighted counts) t ts p away)
    ]

-- the products of a form's coefficients, place by place, are those of its terms
pub total_of-terms : (counts : ℕ → ℕ) (n : ℕ) (terms : List Term) → AllPairs (λ s t. s.place < t.place) terms → All (λ t. t.place < n) terms
    → total_of (products (range_with_len 0 n) (coefficient_in terms) counts) ≡ total_of (map (weighted counts) terms)
total_of-terms counts n terms rising within =
    ap total_of (map_same (λ p. coefficient_in terms p *ℤ pos (counts p)) (looked (λ (t : Term). t.place) (weighted counts) terms) (range_with_len 0 n) (λ p. term_looked counts terms p))
    ∙ total_of-looked (λ (t : Term). t.place) (weighted counts) n 0 n terms (rise_from (λ (t : Term). t.place) 0 n terms rising (λ k d inside. omega arith) within) (omega arith)

-- what an instance adds, place by place, is what its cells add
pub total_of-step : (weight : ℕ → ℤ) (n : ℕ) (pre post : List Cell) → IsRising pre → IsRising post → All (λ c. c.at < n) pre → All (λ c. c.at < n) post
    → total_of (products (range_with_len 0 n) weight (λ p. amount p post) ++ map neg_ℤ (products (range_with_len 0 n) weight (λ p. amount p pre)))
    ≡ joined (total_of (map (cell_term false weight) post)) (total_of (map (cell_term true weight) pre))
total_of-step weight n pre post pre_rises post_rises pre_within post_within =
    total_of-append (products (range_with_len 0 n) weight (λ p. amount p post)) (map neg_ℤ (products (range_with_len 0 n) weight (λ p. amount p pre)))
    ∙ ap (joined (total_of (products (range_with_len 0 n) weight (λ p. amount p post))))
    (ap total_of (map-map neg_ℤ (λ p. weight p *ℤ pos (amount p pre)) (range_with_len 0 n)) ∙ total_of-row true weight n pre pre_rises pre_within)
    ∙ ap (λ t. joined t (total_of (map (cell_term true weight) pre))) (total_of-row false weight n post post_rises post_within)
