-- What halving finds among the terms of a form.
use Rattle.std.proofs.Common.{◌≡◌, ◌≢◌, ℕ, zero, suc, ◌<◌, ◌≤◌, List, [], ◌∷◌, length, get_or, arith, ap, refl, ◌∙◌, sym, inl, inr, pos, true, false, cond, nat_eq}
use Rattle.std.specs.Prelude.{All, AllPairs}
use Rattle.std.specs.Ordering.{nat_cmp, ordering_index}
use Rattle.std.specs.declared.cmp.Ordering.TheVariants.{Less, Equal, Greater}
use Rattle.std.specs.List.Sorted.{IsNonDecreasingBy, IsPartitionPoint}
use Rattle.std.proofs.lemmas.List.Elements.{All-head, All-tail}
use Rattle.std.proofs.lemmas.Bool.{cases_lt}
use Rattle.std.proofs.lemmas.Bool.Decides.{nat_tests}
use Rattle.linear_cert.specs.declared.forms.Term.{Term}
use Rattle.linear_cert.specs.Sparse.{coefficient_in}

-- the places rise strictly
abbrev pub IsRising : List Term → Type 0
IsRising terms = AllPairs (λ s t. s.place < t.place) terms

equal_is : (a p : ℕ) → nat_cmp a p ≡ Equal → a ≡ p
equal_is a p e = grind (arith, nat_tests)

less_is : (a p : ℕ) → nat_cmp a p ≡ Less → a < p
less_is a p e = grind (arith, nat_tests)

greater_is : (a p : ℕ) → nat_cmp a p ≡ Greater → p < a
greater_is a p e = grind (arith, nat_tests)

higher : (a b p : ℕ) → a ≤ b → ordering_index (nat_cmp a p) ≤ ordering_index (nat_cmp b p)
higher a b p le = grind (arith, nat_tests)

pub same_is_true : (a b : ℕ) → a ≡ b → nat_eq a b ≡ true
same_is_true a b h = grind (arith, nat_tests)

pub apart_is_false : (a b : ℕ) → a ≢ b → nat_eq a b ≡ false
apart_is_false a b h = grind (arith, nat_tests)

-- the coefficient at the place of the first term, and at another one
pub coefficient-here : (t : Term) (ts : List Term) (p : ℕ) → t.place ≡ p → coefficient_in (t ∷ ts) p ≡ t.value
coefficient-here t ts p here = ap (λ b. cond b t.value (coefficient_in ts p)) (same_is_true t.place p here)

pub coefficient-away : (t : Term) (ts : List Term) (p : ℕ) → t.place ≢ p → coefficient_in (t ∷ ts) p ≡ coefficient_in ts p
coefficient-away t ts p away = ap (λ b. cond b t.value (coefficient_in ts p)) (apart_is_false t.place p away)

-- a form without a term at the place has 0 there
pub coefficient-none : (p : ℕ) (terms : List Term) → All (λ t. t.place ≢ p) terms → coefficient_in terms p ≡ pos 0
coefficient-none p [] away = refl
coefficient-none p (t ∷ ts) away =
    coefficient-away t ts p (All-head (λ s. s.place ≢ p) t ts away) ∙ coefficient-none p ts (All-tail (λ s. s.place ≢ p) t ts away)

pub rising_behind : (t : Term) (ts : List Term) → IsRising (t ∷ ts) → IsRising ts
rising_behind t ts rising = λ i j d below within. rising (suc i) (suc j) d (omega arith) (omega arith)

pub above_first : (t : Term) (ts : List Term) → IsRising (t ∷ ts) → All (λ s. t.place < s.place) ts
above_first t ts rising = λ k d within. rising 0 (suc k) d (omega arith) (omega arith)

-- where there is a term, the coefficient is its value
pub coefficient-at : (terms : List Term) (i : ℕ) (d : Term) → IsRising terms → i < length terms → coefficient_in terms (get_or terms i d).place ≡ (get_or terms i d).value
coefficient-at [] i d rising within = absurd (omega arith)
coefficient-at (t ∷ ts) zero d rising within = coefficient-here t ts t.place refl
coefficient-at (t ∷ ts) (suc i) d rising within =
    let inside : i < length ts = omega arith in
    let above : t.place < (get_or ts i d).place = above_first t ts rising i d inside in
    coefficient-away t ts (get_or ts i d).place (omega arith) ∙ coefficient-at ts i d (rising_behind t ts rising) inside

rises : (terms : List Term) (i j : ℕ) (d : Term) → IsRising terms → i ≤ j → j < length terms → (get_or terms i d).place ≤ (get_or terms j d).place
rises terms i j d rising le within =
    elim (cases_lt i j) [
      | inl below ↦ let lower : (get_or terms i d).place < (get_or terms j d).place = rising i j d below within in omega arith
      | inr above ↦
          let same : i ≡ j = omega arith in
          let equal = ap (λ k. (get_or terms k d).place) same in
          omega arith
    ]

-- a term that was found
pub coefficient-found : (p : ℕ) (terms : List Term) (i : ℕ) (t : Term) → IsRising terms → i < length terms → t ≡ get_or terms i t → nat_cmp (get_or terms i t).place p ≡ Equal → t.value ≡ coefficient_in terms p
coefficient-found p terms i t rising within is found =
    let here = equal_is (get_or terms i t).place p found in
    let whole = coefficient-at terms i t rising within in
    ap (λ (s : Term). s.value) is ∙ sym whole ∙ ap (coefficient_in terms) here

-- a place that was not
pub coefficient-missing : (p : ℕ) (terms : List Term) (i : ℕ) → IsRising terms → (IsNonDecreasingBy (λ y. ordering_index (nat_cmp y.place p)) terms → IsPartitionPoint (λ y. nat_cmp y.place p ≡ Less) (λ y. nat_cmp y.place p ≡ Greater) terms i) → pos 0 ≡ coefficient_in terms p
coefficient-missing p terms i rising search_says =
    let parted = search_says (λ a b d le within. higher (get_or terms a d).place (get_or terms b d).place p (rises terms a b d rising le within)) in
    sym (coefficient-none p terms (λ k d within. elim (cases_lt k i) [
      | inl below ↦ let lower = less_is (get_or terms k d).place p (parted.0 k d (omega arith) below) in omega arith
      | inr above ↦ let upper = greater_is (get_or terms k d).place p (parted.1 k d above within) in omega arith
    ]))
