-- Sets that a loop fills number by number, and what it reads from rows.
use Rattle.std.proofs.Common.{◌≡◌, ◌≢◌, ℕ, suc, ◌+◌, ◌<◌, ◌≤◌, Bool, true, false, not, ◌&&◌, ◌||◌, ◌⊎◌, ◌-◌, [], ◌∷◌, nat_eq, nat_le, inl, inr, List, length, get_or, set, take, take_all, replicate, arith, refl, ap, subst, sym, ◌∙◌, All, MatchBool, slice_index}
use Rattle.std.proofs.lemmas.Bool.{cases_lt, cases_eq, cases_Bool, false≢true, and_parts, and_from, false_from_ne_true, or_cases, or_left, or_right, not-true, not_from_false, le-leb, leb-true, eqb-true, eq-eqb, not_from_true}
use Rattle.std.proofs.lemmas.List.{get_or-set_same, get_or-set_other, length-set, length-replicate, get_or-replicate, get_or_past}
use Rattle.std.proofs.Common.{ext_get_or, add-one, ◌*◌, add-mul, one-mul}
use Rattle.std.specs.Bool.{beq}
use Rattle.std.proofs.lemmas.List.FromFn.{fill_by_all}
use Rattle.std.proofs.lemmas.List.Sums.{sum_by_more}
use Rattle.trap_siphon.proofs.Members.{length-set_of, has-set_of}
use Rattle.wide_sums.specs.declared.rows.Cell.{Cell}
use Rattle.wide_sums.specs.Cells.{amount, count_at, IsRow}
use Rattle.wide_sums.proofs.Amounts.{amount-none, amount-within, amount-at, count_at-same, count_at-other}
use Rattle.pt_net.specs.Systems.{NetSystem, instance_at, places, size, pre, post}
use Rattle.trap_siphon.specs.Sets.{has, set_of, each_below}
use Rattle.trap_siphon.specs.Stages.{has_inputs}
use Rattle.trap_siphon.proofs.Members.{each-at, each-from}
use Rattle.trap_siphon.proofs.Stages.{inputs-from}
use Rattle.reductions.specs.Marking.{Marks}
use Rattle.reductions.specs.Numbers.{least, is_same}
use Rattle.reductions.specs.Rounds.{unchanged, live, active, rounds}

-- below `k` the set is as the test says, and from there on as it was made
pub record IsFilled (n : ℕ) (test : ℕ → Bool) (made : Bool) (k : ℕ) (found : List Bool) : Type 0 where
  pub as_long : length found ≡ n
  pub below : (i : ℕ) → i < k → has found i ≡ test i
  pub above : (i : ℕ) → k ≤ i → i < n → has found i ≡ made

pub filled_first : (n : ℕ) (test : ℕ → Bool) (made : Bool) (found : List Bool) → found ≡ replicate n made → IsFilled n test made 0 found
filled_first n test made found is = record {
  as_long = ap length is ∙ length-replicate n made;
  below = λ i low. absurd (omega arith);
  above = λ i high low. ap (λ (xs : List Bool). has xs i) is ∙ get_or-replicate n i made false low;
}

pub filled_more : (n : ℕ) (test : ℕ → Bool) (made : Bool) (k : ℕ) (found : List Bool) (chosen : Bool) → k < n → chosen ≡ test k → IsFilled n test made k found → IsFilled n test made (k + 1) (set found k chosen)
filled_more n test made k found chosen low is filled =
    let long = filled.as_long in
    record {
      as_long = length-set found k chosen ∙ long;
      below = λ i under. elim (cases_eq i k) [
        | inl here ↦ ap (has (set found k chosen)) here ∙ get_or-set_same found k chosen false (omega arith) ∙ is ∙ ap test (sym here)
        | inr away ↦ get_or-set_other found k i chosen false away ∙ filled.below i (omega arith)
      ];
      above = λ i high under. get_or-set_other found k i chosen false (λ same. absurd (omega arith)) ∙ filled.above i (omega arith) under;
    }

pub filled_all : (n : ℕ) (test : ℕ → Bool) (made : Bool) (k : ℕ) (found : List Bool) → n ≤ k → IsFilled n test made k found → found ≡ set_of n test
unfolding set_of
filled_all n test made k found past filled = fill_by_all test found n false filled.as_long (λ i low. filled.below i (omega arith))

-- an answer that is true exactly where both parts are
pub both_from : (r x y : Bool) → MatchBool r ((x ≡ true) × (y ≡ true)) ((x ≡ true) × (y ≡ true) → ⊥) → r ≡ (x && y)
both_from true x y h = sym (and_from x y h.0 h.1)
both_from false true true h = absurd (h (refl, refl))
both_from false true false h = refl
both_from false false y h = refl

-- all cells of the input row are in the set
pub inputs_all : (net : NetSystem) (s : List Bool) (i k : ℕ) (row : List Cell) → row ≡ (instance_at net i).pre → length row ≤ k → All (λ c. has s c.at ≡ true) (take k row) → has_inputs net s i ≡ true
inputs_all net s i k row is past all =
    let whole : All (λ c. has s c.at ≡ true) row = subst (λ (cs : List Cell). All (λ (c : Cell). has s c.at ≡ true) cs) (take_all k row past) all in
    inputs-from net s i (λ p low takes. elim (cases_Bool (has s p)) [
      | inl here ↦ here
      | inr off ↦
          let none = amount-none p row (λ j d within at. let on : has s (get_or row j d).at ≡ true = whole j d within in false≢true (sym off ∙ ap (has s) (sym at) ∙ on)) in
          let moved = ap (amount p) is in
          absurd (omega arith)
    ])

-- all cells fit on the constant places
pub fits_all : (net : NetSystem) (still : List Bool) (i k : ℕ) (row : List Cell) → row ≡ (instance_at net i).pre → IsRow row → length row ≤ k
    → All (λ c. has still c.at ≡ true → c.count ≤ slice_index net.initial c.at) (take k row) → (p : ℕ) → p < places net → has still p ≡ true → pre net i p ≤ slice_index net.initial p
fits_all net still i k row is is_row past all p low here =
    let whole : All (λ c. has still c.at ≡ true → c.count ≤ slice_index net.initial c.at) row = subst (λ (cs : List Cell). All (λ (c : Cell). has still c.at ≡ true → c.count ≤ slice_index net.initial c.at) cs) (take_all k row past) all in
    let fit = amount-within p (slice_index net.initial p) row is_row.rising (λ j d within at.
    let one : (get_or row j d).count ≤ slice_index net.initial (get_or row j d).at = whole j d within (ap (has still) at ∙ here) in
    let moved = ap (slice_index net.initial) at in
    omega arith) in
    let moved = ap (amount p) is in
    omega arith

-- the same where the second part is said of each constant place
fits_test : (net : NetSystem) (still : List Bool) (i : ℕ) → ((p : ℕ) → p < places net → has still p ≡ true → pre net i p ≤ slice_index net.initial p) → each_below (places net) (λ p. not (has still p) || nat_le (pre net i p) (slice_index net.initial p)) ≡ true
fits_test net still i fits = each-from (places net) (λ p. not (has still p) || nat_le (pre net i p) (slice_index net.initial p)) (λ p low. elim (cases_Bool (has still p)) [
  | inl here ↦ or_right (not (has still p)) (nat_le (pre net i p) (slice_index net.initial p)) (le-leb (pre net i p) (slice_index net.initial p) (fits p low here))
  | inr off ↦ or_left (not (has still p)) (nat_le (pre net i p) (slice_index net.initial p)) (not_from_false (has still p) off)
])

fits_told : (net : NetSystem) (still : List Bool) (i : ℕ) → each_below (places net) (λ p. not (has still p) || nat_le (pre net i p) (slice_index net.initial p)) ≡ true → (p : ℕ) → p < places net → has still p ≡ true → pre net i p ≤ slice_index net.initial p
fits_told net still i test p low here = elim (or_cases (not (has still p)) (nat_le (pre net i p) (slice_index net.initial p)) (each-at (places net) (λ q. not (has still q) || nat_le (pre net i q) (slice_index net.initial q)) test p low)) [
  | inl off ↦ absurd (false≢true (sym (not-true (has still p) off) ∙ here))
  | inr fits ↦ leb-true (pre net i p) (slice_index net.initial p) fits
]

live_match : (net : NetSystem) (still : List Bool) (i : ℕ) (r x : Bool)
    → MatchBool r ((x ≡ true) × ((p : ℕ) → p < places net → has still p ≡ true → pre net i p ≤ slice_index net.initial p)) ((x ≡ true) × ((p : ℕ) → p < places net → has still p ≡ true → pre net i p ≤ slice_index net.initial p) → ⊥)
    → MatchBool r ((x ≡ true) × (each_below (places net) (λ p. not (has still p) || nat_le (pre net i p) (slice_index net.initial p)) ≡ true)) ((x ≡ true) × (each_below (places net) (λ p. not (has still p) || nat_le (pre net i p) (slice_index net.initial p)) ≡ true) → ⊥)
live_match net still i true x h = (h.0, fits_test net still i h.1)
live_match net still i false x h = λ both. h (both.0, fits_told net still i both.1)

pub live_from : (net : NetSystem) (still : List Bool) (i : ℕ) (r x : Bool)
    → MatchBool r ((x ≡ true) × ((p : ℕ) → p < places net → has still p ≡ true → pre net i p ≤ slice_index net.initial p)) ((x ≡ true) × ((p : ℕ) → p < places net → has still p ≡ true → pre net i p ≤ slice_index net.initial p) → ⊥)
    → r ≡ (x && each_below (places net) (λ p. not (has still p) || nat_le (pre net i p) (slice_index net.initial p)))
live_from net still i r x h = both_from r x (each_below (places net) (λ p. not (has still p) || nat_le (pre net i p) (slice_index net.initial p))) (live_match net still i r x h)

-- where the first part is true, the second one decides
pub second_decides : (r a b : Bool) (W : Type 0) → a ≡ true → MatchBool r (b ≡ true) W → (W → b ≡ true → ⊥) → MatchBool r ((a ≡ true) × (b ≡ true)) ((a ≡ true) × (b ≡ true) → ⊥)
second_decides true a b W here h not_b = (here, h)
second_decides false a b W here h not_b = λ both. not_b h both.1

-- places that are marked one after another
pub marks_none : (added : ℕ → Type 0) (s : List Bool) → ((p : ℕ) → added p → ⊥) → Marks added s s
marks_none added s none = record { as_long = refl; keeps = λ p had. had; only = λ p now. inl now; all = λ p new. absurd (none p new) }

pub marks_both : (P Q R : ℕ → Type 0) (s t u : List Bool) → Marks P s t → Marks Q t u → ((p : ℕ) → P p → R p) → ((p : ℕ) → Q p → R p) → ((p : ℕ) → R p → P p ⊎ Q p) → Marks R s u
marks_both P Q R s t u first second of_first of_second parts = record {
  as_long = second.as_long ∙ first.as_long;
  keeps = λ p had. second.keeps p (first.keeps p had);
  only = λ p now. elim (second.only p now) [
    | inl before ↦ elim (first.only p before) [ inl had ↦ inl had | inr new ↦ inr (of_first p new) ]
    | inr new ↦ inr (of_second p new)
  ];
  all = λ p new. elim (parts p new) [ inl one ↦ second.keeps p (first.all p one) | inr two ↦ second.all p two ];
}

pub marks_cell : (row other : List Cell) (k : ℕ) (d : Cell) (s t u : List Bool) → IsRow row → k < length row
    → Marks (λ p. (0 < amount p (take k row)) × (amount p row ≢ amount p other)) s t → Marks (λ p. (p ≡ (get_or row k d).at) × ((get_or row k d).count ≢ amount (get_or row k d).at other)) t u
    → Marks (λ p. (0 < amount p (take (k + 1) row)) × (amount p row ≢ amount p other)) s u
marks_cell row other k d s t u is_row within first second =
    let c = get_or row k d in
    let whole = amount-at row k d is_row.rising within in
    let some = (is_row.counted k d within).0 in
    marks_both (λ p. (0 < amount p (take k row)) × (amount p row ≢ amount p other)) (λ p. (p ≡ c.at) × (c.count ≢ amount c.at other)) (λ p. (0 < amount p (take (k + 1) row)) × (amount p row ≢ amount p other)) s t u first second
    (λ p had. (let sum = sum_by_more (count_at p) row k d within in let before = had.0 in omega arith, had.1))
    (λ p new. (
      let sum = sum_by_more (count_at p) row k d within in
          let own = count_at-same p c (sym new.0) in
          omega arith,
      λ same. new.1 (sym whole ∙ ap (λ q. amount q row) (sym new.0) ∙ same ∙ ap (λ q. amount q other) new.0),
    ))
    (λ p now. elim (cases_eq c.at p) [
      | inl here ↦ inr (sym here, λ same. now.1 (ap (λ q. amount q row) (sym here) ∙ whole ∙ same ∙ ap (λ q. amount q other) here))
      | inr away ↦
          let sum = sum_by_more (count_at p) row k d within in
          let none = count_at-other p c away in
          let some = now.0 in
          inl (omega arith, now.1)
    ])

pub marks_like : (P Q : ℕ → Type 0) (s t : List Bool) → Marks P s t → ((p : ℕ) → P p → Q p) → ((p : ℕ) → Q p → P p) → Marks Q s t
marks_like P Q s t marks there back = record {
  as_long = marks.as_long;
  keeps = marks.keeps;
  only = λ p now. elim (marks.only p now) [ inl had ↦ inl had | inr new ↦ inr (there p new) ];
  all = λ p new. marks.all p (back p new);
}

-- both rows of an instance
differs : (a b : ℕ) → a ≢ b → (0 < a) ⊎ (0 < b)
differs a b apart = elim (cases_eq a 0) [
  | inl none ↦ elim (cases_eq b 0) [ inl also ↦ absurd (apart (none ∙ sym also)) | inr some ↦ inr (omega arith) ]
  | inr some ↦ inl (omega arith)
]

pub marks_rows : (net : NetSystem) (on : List Bool) (i : ℕ) (s t u : List Bool) → has on i ≡ true
    → Marks (λ p. (0 < pre net i p) × (pre net i p ≢ post net i p)) s t → Marks (λ p. (0 < post net i p) × (post net i p ≢ pre net i p)) t u
    → Marks (λ p. (has on i ≡ true) × (pre net i p ≢ post net i p)) s u
marks_rows net on i s t u here first second =
    marks_both (λ p. (0 < pre net i p) × (pre net i p ≢ post net i p)) (λ p. (0 < post net i p) × (post net i p ≢ pre net i p)) (λ p. (has on i ≡ true) × (pre net i p ≢ post net i p)) s t u first second
    (λ p one. (here, one.1)) (λ p two. (here, λ same. two.1 (sym same)))
    (λ p both. elim (differs (pre net i p) (post net i p) both.1) [ inl some ↦ inl (some, both.1) | inr some ↦ inr (some, λ same. both.1 (sym same)) ])

pub marks_instance : (net : NetSystem) (on : List Bool) (k : ℕ) (s t u : List Bool)
    → Marks (λ p. (i : ℕ) × (i < k) × (has on i ≡ true) × (pre net i p ≢ post net i p)) s t → Marks (λ p. (has on k ≡ true) × (pre net k p ≢ post net k p)) t u
    → Marks (λ p. (i : ℕ) × (i < k + 1) × (has on i ≡ true) × (pre net i p ≢ post net i p)) s u
marks_instance net on k s t u first second =
    marks_both (λ p. (i : ℕ) × (i < k) × (has on i ≡ true) × (pre net i p ≢ post net i p)) (λ p. (has on k ≡ true) × (pre net k p ≢ post net k p))
    (λ p. (i : ℕ) × (i < k + 1) × (has on i ≡ true) × (pre net i p ≢ post net i p)) s t u first second
    (λ p one. (one.0, (let low = one.1 in omega arith), one.2, one.3)) (λ p two. (k, omega arith, two.0, two.1))
    (λ p now. elim (cases_lt now.0 k) [
      | inl low ↦ inl (now.0, low, now.2, now.3)
      | inr high ↦
          let below = now.1 in
          let same : now.0 ≡ k = omega arith in
          inr (ap (has on) (sym same) ∙ now.2, subst (λ i. pre net i p ≢ post net i p) same now.3)
    ])

-- what was marked, as the test of the definition
pub marks_test : (net : NetSystem) (on : List Bool) (k : ℕ) (s u : List Bool) → ((p : ℕ) → has s p ≡ false) → size net ≤ k → (p : ℕ)
    → Marks (λ p. (i : ℕ) × (i < k) × (has on i ≡ true) × (pre net i p ≢ post net i p)) s u → k ≤ size net
    → has u p ≡ not (each_below (size net) (λ i. not (has on i) || nat_eq (pre net i p) (post net i p)))
marks_test net on k s u empty past p marks top = elim (cases_Bool (has u p)) [
  | inl now ↦ elim (marks.only p now) [
    | inl had ↦ absurd (false≢true (sym (empty p) ∙ had))
    | inr new ↦ now ∙ sym (not_from_false (each_below (size net) (λ i. not (has on i) || nat_eq (pre net i p) (post net i p))) (false_from_ne_true (each_below (size net) (λ i. not (has on i) || nat_eq (pre net i p) (post net i p))) (λ all.
        elim (or_cases (not (has on new.0)) (nat_eq (pre net new.0 p) (post net new.0 p)) (each-at (size net) (λ i. not (has on i) || nat_eq (pre net i p) (post net i p)) all new.0 (let low = new.1 in omega arith))) [
          | inl off ↦ false≢true (sym (not-true (has on new.0) off) ∙ new.2)
          | inr equal ↦ new.3 (eqb-true (pre net new.0 p) (post net new.0 p) equal)
        ])))
  ]
  | inr off ↦ off ∙ sym (not_from_true (each_below (size net) (λ i. not (has on i) || nat_eq (pre net i p) (post net i p))) (each-from (size net) (λ i. not (has on i) || nat_eq (pre net i p) (post net i p)) (λ i inside. elim (cases_Bool (has on i)) [
    | inl here ↦ or_right (not (has on i)) (nat_eq (pre net i p) (post net i p)) (elim (cases_eq (pre net i p) (post net i p)) [
      | inl equal ↦ eq-eqb (pre net i p) (post net i p) equal
      | inr apart ↦ absurd (false≢true (sym off ∙ marks.all p (i, (omega arith), here, apart)))
    ])
    | inr away ↦ or_left (not (has on i)) (nat_eq (pre net i p) (post net i p)) (not_from_false (has on i) away)
  ])))
]

pub marks_cell_of : (row from other : List Cell) (k : ℕ) (d : Cell) (s t u : List Bool) → row ≡ from → IsRow row → k < length row
    → Marks (λ p. (0 < amount p (take k row)) × (amount p from ≢ amount p other)) s t → Marks (λ p. (p ≡ (get_or row k d).at) × ((get_or row k d).count ≢ amount (get_or row k d).at other)) t u
    → Marks (λ p. (0 < amount p (take (k + 1) row)) × (amount p from ≢ amount p other)) s u
marks_cell_of row from other k d s t u is is_row within first second =
    subst (λ (r : List Cell). Marks (λ p. (0 < amount p (take (k + 1) row)) × (amount p r ≢ amount p other)) s u) is
    (marks_cell row other k d s t u is_row within (subst (λ (r : List Cell). Marks (λ p. (0 < amount p (take k row)) × (amount p r ≢ amount p other)) s t) (sym is) first) second)

pub replicate_off : (n p : ℕ) → has (replicate n false) p ≡ false
replicate_off n p = elim (cases_lt p n) [
  | inl low ↦ get_or-replicate n p false false low
  | inr past ↦ let long = length-replicate n false in get_or_past (replicate n false) p false (omega arith)
]

pub set_same_tests : (n : ℕ) (f g : ℕ → Bool) → ((p : ℕ) → p < n → f p ≡ g p) → set_of n f ≡ set_of n g
set_same_tests n f g same =
    ext_get_or false (set_of n f) (set_of n g) (length-set_of n f ∙ sym (length-set_of n g)) (λ p within.
    let long = length-set_of n f in
    let low : p < n = omega arith in
    has-set_of n f p low ∙ same p low ∙ sym (has-set_of n g p low))

not_not : (b : Bool) → not (not b) ≡ b
not_not true = refl
not_not false = refl

pub unchanged_from : (net : NetSystem) (on moved : List Bool) → ((p : ℕ) → p < places net → has moved p ≡ not (each_below (size net) (λ i. not (has on i) || nat_eq (pre net i p) (post net i p)))) → set_of (places net) (λ p. not (has moved p)) ≡ unchanged net on
unfolding unchanged
unchanged_from net on moved is =
    set_same_tests (places net) (λ p. not (has moved p)) (λ p. each_below (size net) (λ i. not (has on i) || nat_eq (pre net i p) (post net i p)))
    (λ p low. ap not (is p low) ∙ not_not (each_below (size net) (λ i. not (has on i) || nat_eq (pre net i p) (post net i p))))

-- the rounds
beq_same : (b : Bool) → beq b b ≡ true
beq_same true = refl
beq_same false = refl

same_is : (xs : List Bool) → is_same xs xs ≡ true
same_is [] = refl
same_is (x ∷ xs) = and_from (beq x x) (is_same xs xs) (beq_same x) (same_is xs)

beq_is : (b c : Bool) → beq b c ≡ true → b ≡ c
beq_is true true e = refl
beq_is false false e = refl
beq_is true false e = absurd (false≢true e)
beq_is false true e = absurd (false≢true e)

is_from : (xs ys : List Bool) → is_same xs ys ≡ true → xs ≡ ys
is_from [] [] e = refl
is_from [] (y ∷ ys) e = absurd (false≢true e)
is_from (x ∷ xs) [] e = absurd (false≢true e)
is_from (x ∷ xs) (y ∷ ys) e =
    let parts = and_parts (beq x y) (is_same xs ys) e in
    ap (λ (b : Bool). b ∷ xs) (beq_is x y parts.0) ∙ ap (λ (zs : List Bool). y ∷ zs) (is_from xs ys parts.1)

least_here : (n : ℕ) (test : ℕ → Bool) (k : ℕ) → test k ≡ true → least (suc n) test k ≡ k
least_here n test k e = ap (λ (b : Bool). let r : ℕ = elim b [ true ↦ k | false ↦ least n test (k + 1) ] in r) e

least_later : (n : ℕ) (test : ℕ → Bool) (k : ℕ) → test k ≡ false → least (suc n) test k ≡ least n test (k + 1)
least_later n test k e = ap (λ (b : Bool). let r : ℕ = elim b [ true ↦ k | false ↦ least n test (k + 1) ] in r) e

abbrev pub settled : NetSystem → ℕ → Bool
settled net k = is_same (active net k) (active net (k - 1))

pub active_next : (net : NetSystem) (k : ℕ) (on now : List Bool) → on ≡ active net k → now ≡ live net on → now ≡ active net (k + 1)
unfolding active
active_next net k on now is made = made ∙ ap (live net) is ∙ ap (active net) (sym (add-one k))

settled_is : (net : NetSystem) (k : ℕ) (on now : List Bool) → on ≡ active net k → now ≡ live net on → settled net (k + 1) ≡ is_same now on
settled_is net k on now is made =
    let before : k + 1 - 1 ≡ k = omega arith in
    ap (λ (xs : List Bool). is_same xs (active net (k + 1 - 1))) (sym (active_next net k on now is made)) ∙ ap (is_same now) (ap (active net) before ∙ sym is)

pub rounds_stop : (net : NetSystem) (k : ℕ) (on now : List Bool) → k < 63 → on ≡ active net k → now ≡ live net on → now ≡ on → rounds net ≡ least (63 - k) (settled net) (k + 1) → rounds net ≡ k + 1
rounds_stop net k on now low is made same left =
    let more : 63 - k ≡ suc (62 - k) = omega arith in
    left ∙ ap (λ n. least n (settled net) (k + 1)) more
    ∙ least_here (62 - k) (settled net) (k + 1) (settled_is net k on now is made ∙ ap (λ (xs : List Bool). is_same xs on) same ∙ same_is on)

pub rounds_on : (net : NetSystem) (k : ℕ) (on now : List Bool) → k < 63 → on ≡ active net k → now ≡ live net on → now ≢ on → rounds net ≡ least (63 - k) (settled net) (k + 1) → rounds net ≡ least (63 - (k + 1)) (settled net) (k + 1 + 1)
rounds_on net k on now low is made apart left =
    let more : 63 - k ≡ suc (62 - k) = omega arith in
    let rest : 62 - k ≡ 63 - (k + 1) = omega arith in
    left ∙ ap (λ n. least n (settled net) (k + 1)) more
    ∙ least_later (62 - k) (settled net) (k + 1) (false_from_ne_true (settled net (k + 1)) (λ e. apart (is_from now on (sym (settled_is net k on now is made) ∙ e))))
    ∙ ap (λ n. least n (settled net) (k + 1 + 1)) rest

pub rounds_first : (net : NetSystem) → rounds net ≡ least 63 (settled net) 1
unfolding rounds
rounds_first net = refl

pub active_first : (net : NetSystem) → replicate (size net) true ≡ active net 0
unfolding active set_of
active_first net = fill_by_all (λ i. true) (replicate (size net) true) (size net) false (length-replicate (size net) true) (λ i low. get_or-replicate (size net) i true false low)

pub ticks_more : (first before now k n : ℕ) → before ≤ first + k * n → now ≤ before + n → now ≤ first + (k + 1) * n
ticks_more first before now k n so more = omega (arith, add-mul k 1 n, one-mul n)
