-- Spending the entries one after another.
use Rattle.std.proofs.Common.{◌≡◌, ◌≢◌, ℕ, suc, ◌+◌, ◌-◌, ◌<◌, Bool, true, false, not, ◌&&◌, ◌||◌, nat_eq, nat_lt, inl, inr, List, [], ◌∷◌, ◌++◌, length, set, arith, refl, ap, subst, sym, ◌∙◌, AllPairs, count_by, slice_index}
use Rattle.std.proofs.lemmas.Bool.{cases_lt, cases_eq, cases_Bool, false≢true, or_cases, or_left, or_right, or_from, and_from, and_parts, and_left, and_right, eq-eqb, ne_eqb, eqb-true, lt-ltb, le-ltb, not_from_true, not_from_false}
use Rattle.std.proofs.lemmas.List.{get_or-set_same, get_or-set_other, length-set}
use Rattle.wide_sums.specs.Cells.{amount}
use Rattle.pt_net.specs.Systems.{NetSystem, places, size, pre, post}
use Rattle.pt_net.specs.declared.packed.Entry.{Entry}
use Rattle.trap_siphon.specs.Sets.{has}
use Rattle.trap_siphon.specs.Stages.{last_stage}
use Rattle.pt_net.specs.Packing.{IsEarlier, IsPackedOf, entry_at}
use Rattle.trap_siphon.specs.Closing.{is_in, spent, spent_to, waiting, left, Adds, IsClosing}
use Rattle.trap_siphon.proofs.Adding.{is_in-push}
use Rattle.trap_siphon.proofs.Counting.{count-same, count-less, count-none, count-zero}
use Rattle.trap_siphon.proofs.Entries.{Says, entry_of_row, parted}
use Rattle.trap_siphon.proofs.Members.{within_set}
use Rattle.trap_siphon.proofs.Stages.{inputs-from, IsClosed, last_stage-closed}

-- the entry that is spent next, and what changes
spent_not : (es : List Entry) (done : List ℕ) (p k : ℕ) → (entry_at es k).place ≡ p → is_in done p ≡ false → spent_to es done p k k ≡ false
spent_not es done p k here fresh =
    or_from (spent es done k) (nat_eq (entry_at es k).place p && nat_lt k k) (ap (is_in done) here ∙ fresh) (and_right (nat_eq (entry_at es k).place p) (nat_lt k k) (le-ltb k k (omega arith)))

spent_now : (es : List Entry) (done : List ℕ) (p k : ℕ) → (entry_at es k).place ≡ p → spent_to es done p (k + 1) k ≡ true
spent_now es done p k here =
    or_right (spent es done k) (nat_eq (entry_at es k).place p && nat_lt k (k + 1)) (and_from (nat_eq (entry_at es k).place p) (nat_lt k (k + 1)) (eq-eqb (entry_at es k).place p here) (lt-ltb k (k + 1) (omega arith)))

later : (j k : ℕ) → j ≢ k → nat_lt j k ≡ nat_lt j (k + 1)
later j k away = elim (cases_lt j k) [
  | inl below ↦ lt-ltb j k below ∙ sym (lt-ltb j (k + 1) (omega arith))
  | inr above ↦ le-ltb j k above ∙ sym (le-ltb j (k + 1) (omega arith))
]

spent_other : (es : List Entry) (done : List ℕ) (p k j : ℕ) → j ≢ k → spent_to es done p k j ≡ spent_to es done p (k + 1) j
spent_other es done p k j away = ap (λ (b : Bool). spent es done j || (nat_eq (entry_at es j).place p && b)) (later j k away)

-- before the first entry of a place, and behind its last one
or_false : (b c : Bool) → c ≡ false → b ≡ (b || c)
or_false true c off = refl
or_false false c off = sym off

spent_begin : (es : List Entry) (done : List ℕ) (p k : ℕ) → AllPairs IsEarlier es → k < length es → spent es done k ≡ spent_to es done p (count_by (λ f. nat_lt f.place p) es) k
spent_begin es done p k rising low =
    or_false (spent es done k) (nat_eq (entry_at es k).place p && nat_lt k (count_by (λ f. nat_lt f.place p) es)) (elim (cases_lt k (count_by (λ f. nat_lt f.place p) es)) [
      | inl before ↦ let lower = (parted es p k rising low).below before in and_left (nat_eq (entry_at es k).place p) (nat_lt k (count_by (λ f. nat_lt f.place p) es)) (ne_eqb (entry_at es k).place p (λ same. absurd (omega arith)))
      | inr behind ↦ and_right (nat_eq (entry_at es k).place p) (nat_lt k (count_by (λ f. nat_lt f.place p) es)) (le-ltb k (count_by (λ f. nat_lt f.place p) es) behind)
    ])

spent_end : (es : List Entry) (done : List ℕ) (p k : ℕ) → AllPairs IsEarlier es → k < length es → spent_to es done p (count_by (λ f. nat_lt f.place (p + 1)) es) k ≡ spent es (done ++ p ∷ []) k
spent_end es done p k rising low =
    ap (λ (b : Bool). spent es done k || b) (elim (cases_eq (entry_at es k).place p) [
      | inl here ↦
          let before = (parted es (p + 1) k rising low).from (omega arith) in
          and_from (nat_eq (entry_at es k).place p) (nat_lt k (count_by (λ f. nat_lt f.place (p + 1)) es)) (eq-eqb (entry_at es k).place p here) (lt-ltb k (count_by (λ f. nat_lt f.place (p + 1)) es) before)
          ∙ sym (or_left (nat_eq (entry_at es k).place p) false (eq-eqb (entry_at es k).place p here))
      | inr away ↦
          and_left (nat_eq (entry_at es k).place p) (nat_lt k (count_by (λ f. nat_lt f.place (p + 1)) es)) (ne_eqb (entry_at es k).place p away)
          ∙ sym (or_from (nat_eq (entry_at es k).place p) false (ne_eqb (entry_at es k).place p away) refl)
    ])
    ∙ sym (is_in-push done p (entry_at es k).place)

-- how many wait
pub waiting-same : (es : List Entry) (s s' : ℕ → Bool) (i : ℕ) → ((k : ℕ) → k < length es → s k ≡ s' k) → waiting es s i ≡ waiting es s' i
unfolding waiting
waiting-same es s s' i same = count-same (length es) (λ k. nat_eq (entry_at es k).instance i && not (s k)) (λ k. nat_eq (entry_at es k).instance i && not (s' k))
    (λ k low. ap (λ (b : Bool). nat_eq (entry_at es k).instance i && not b) (same k low))

waiting-less : (es : List Entry) (s s' : ℕ → Bool) (i k : ℕ) → k < length es → (entry_at es k).instance ≡ i → s k ≡ false → s' k ≡ true → ((j : ℕ) → j < length es → j ≢ k → s j ≡ s' j) → waiting es s i ≡ suc (waiting es s' i)
unfolding waiting
waiting-less es s s' i k low own off on same =
    count-less (length es) k (λ j. nat_eq (entry_at es j).instance i && not (s j)) (λ j. nat_eq (entry_at es j).instance i && not (s' j)) low
    (and_from (nat_eq (entry_at es k).instance i) (not (s k)) (eq-eqb (entry_at es k).instance i own) (not_from_false (s k) off))
    (and_right (nat_eq (entry_at es k).instance i) (not (s' k)) (not_from_true (s' k) on))
    (λ j within away. ap (λ (b : Bool). nat_eq (entry_at es j).instance i && not b) (same j within away))

other_same : (b c d : Bool) → b ≡ false → (b && c) ≡ (b && d)
other_same b c d off = and_left b c off ∙ sym (and_left b d off)

waiting-other : (es : List Entry) (s s' : ℕ → Bool) (i k : ℕ) → (entry_at es k).instance ≢ i → ((j : ℕ) → j < length es → j ≢ k → s j ≡ s' j) → waiting es s i ≡ waiting es s' i
unfolding waiting
waiting-other es s s' i k other same =
    count-same (length es) (λ j. nat_eq (entry_at es j).instance i && not (s j)) (λ j. nat_eq (entry_at es j).instance i && not (s' j)) (λ j within. elim (cases_eq j k) [
      | inl here ↦ other_same (nat_eq (entry_at es j).instance i) (not (s j)) (not (s' j)) (ne_eqb (entry_at es j).instance i (λ own. other (ap (λ h. (entry_at es h).instance) (sym here) ∙ own)))
      | inr away ↦ ap (λ (b : Bool). nat_eq (entry_at es j).instance i && not b) (same j within away)
    ])

-- where none waits, all are spent, and the other way round
waiting-zero : (es : List Entry) (s : ℕ → Bool) (i : ℕ) → waiting es s i ≡ 0 → (j : ℕ) → j < length es → (entry_at es j).instance ≡ i → s j ≡ true
unfolding waiting
waiting-zero es s i none j low own = elim (cases_Bool (s j)) [
  | inl on ↦ on
  | inr off ↦ absurd (false≢true (sym (count-zero (length es) (λ k. nat_eq (entry_at es k).instance i && not (s k)) none j low)
      ∙ and_from (nat_eq (entry_at es j).instance i) (not (s j)) (eq-eqb (entry_at es j).instance i own) (not_from_false (s j) off)))
]

pub waiting-none : (es : List Entry) (s : ℕ → Bool) (i : ℕ) → ((j : ℕ) → j < length es → (entry_at es j).instance ≡ i → s j ≡ true) → waiting es s i ≡ 0
unfolding waiting
waiting-none es s i all = count-none (length es) (λ k. nat_eq (entry_at es k).instance i && not (s k)) (λ j low. elim (cases_eq (entry_at es j).instance i) [
  | inl own ↦ and_right (nat_eq (entry_at es j).instance i) (not (s j)) (not_from_true (s j) (all j low own))
  | inr other ↦ and_left (nat_eq (entry_at es j).instance i) (not (s j)) (ne_eqb (entry_at es j).instance i other)
])

-- how many are left
pub left-same : (es : List Entry) (s s' : ℕ → Bool) → ((k : ℕ) → k < length es → s k ≡ s' k) → left es s ≡ left es s'
unfolding left
left-same es s s' same = count-same (length es) (λ k. not (s k)) (λ k. not (s' k)) (λ k low. ap not (same k low))

left-less : (es : List Entry) (s s' : ℕ → Bool) (k : ℕ) → k < length es → s k ≡ false → s' k ≡ true → ((j : ℕ) → j < length es → j ≢ k → s j ≡ s' j) → left es s ≡ suc (left es s')
unfolding left
left-less es s s' k low off on same =
    count-less (length es) k (λ j. not (s j)) (λ j. not (s' j)) low (not_from_false (s k) off) (not_from_true (s' k) on) (λ j within away. ap not (same j within away))

-- what an instance's next entry is
pub record IsNext (net : NetSystem) (es : List Entry) (done : List ℕ) (p k : ℕ) (set' : List Bool) : Type 0 where
  pub low : k < length es
  pub here : (entry_at es k).place ≡ p
  pub fresh : is_in done p ≡ false
  pub done_in : (q : ℕ) → is_in done q ≡ true → has set' q ≡ true
  pub place_in : has set' p ≡ true

-- one entry is spent
pub left_step : (net : NetSystem) (es : List Entry) (done : List ℕ) (p k : ℕ) (set' : List Bool) → IsNext net es done p k set' → left es (spent_to es done p k) ≡ suc (left es (spent_to es done p (k + 1)))
left_step net es done p k set' next =
    left-less es (spent_to es done p k) (spent_to es done p (k + 1)) k next.low (spent_not es done p k next.here next.fresh) (spent_now es done p k next.here) (λ j within away. spent_other es done p k j away)

waiting_step : (net : NetSystem) (es : List Entry) (done : List ℕ) (p k : ℕ) (set' : List Bool) → IsNext net es done p k set' → waiting es (spent_to es done p k) (entry_at es k).instance ≡ suc (waiting es (spent_to es done p (k + 1)) (entry_at es k).instance)
waiting_step net es done p k set' next =
    waiting-less es (spent_to es done p k) (spent_to es done p (k + 1)) (entry_at es k).instance k next.low refl (spent_not es done p k next.here next.fresh) (spent_now es done p k next.here) (λ j within away. spent_other es done p k j away)

pub some_waits : (net : NetSystem) (es : List Entry) (on : List Bool) (marking done : List ℕ) (p k : ℕ) (set' : List Bool) (order missing : List ℕ)
    → IsNext net es done p k set' → (entry_at es k).instance < size net → IsClosing net es on marking (size net) (spent_to es done p k) set' order missing → 0 < slice_index missing (entry_at es k).instance
some_waits net es on marking done p k set' order missing next inside closing =
    let waits = closing.waits (entry_at es k).instance inside in
    let step = waiting_step net es done p k set' next in
    omega arith

-- what is spent is in the set
spent_in : (es : List Entry) (done : List ℕ) (p k j : ℕ) (set' : List Bool) → ((q : ℕ) → is_in done q ≡ true → has set' q ≡ true) → has set' p ≡ true → spent_to es done p k j ≡ true → has set' (entry_at es j).place ≡ true
spent_in es done p k j set' done_in place_in on = elim (or_cases (spent es done j) (nat_eq (entry_at es j).place p && nat_lt j k) on) [
  | inl before ↦ done_in (entry_at es j).place before
  | inr now ↦ ap (has set') (eqb-true (entry_at es j).place p (and_parts (nat_eq (entry_at es j).place p) (nat_lt j k) now).0) ∙ place_in
]

-- an input of an instance has an entry
input_says : (net : NetSystem) (es : List Entry) (i q : ℕ) → IsPackedOf net es → i < size net → 0 < pre net i q → (k : ℕ) × Says es i q k
input_says net es i q packed inside takes = entry_of_row es i q (let row = ap (amount q) (packed.each i inside) in omega arith)

-- the instance of the last entry that waits has its inputs in the set
inputs_in : (net : NetSystem) (es : List Entry) (on : List Bool) (marking done : List ℕ) (p k : ℕ) (set' : List Bool) (order missing : List ℕ)
    → IsPackedOf net es → IsNext net es done p k set' → (entry_at es k).instance < size net → IsClosing net es on marking (size net) (spent_to es done p k) set' order missing
    → slice_index missing (entry_at es k).instance ≡ 1 → (q : ℕ) → 0 < pre net (entry_at es k).instance q → has set' q ≡ true
inputs_in net es on marking done p k set' order missing packed next inside closing last q takes =
    let i = (entry_at es k).instance in
    let waits = closing.waits i inside in
    let step = waiting_step net es done p k set' next in
    let none : waiting es (spent_to es done p (k + 1)) i ≡ 0 = omega arith in
    let found = input_says net es i q packed inside takes in
    let on = waiting-zero es (spent_to es done p (k + 1)) i none found.0 found.1.low found.1.own in
    sym (ap (has set') found.1.at) ∙ spent_in es done p (k + 1) found.0 set' next.done_in next.place_in on

pub closing_step : (net : NetSystem) (es : List Entry) (on : List Bool) (marking done : List ℕ) (p k : ℕ) (old new : List Bool) (order order' missing : List ℕ)
    → IsPackedOf net es → IsNext net es done p k old → (entry_at es k).instance < size net → IsClosing net es on marking (size net) (spent_to es done p k) old order missing
    → Adds (λ q. (slice_index missing (entry_at es k).instance ≡ 1) × (has on (entry_at es k).instance ≡ true) × (0 < post net (entry_at es k).instance q)) old new order order'
    → IsClosing net es on marking (size net) (spent_to es done p (k + 1)) new order' (set missing (entry_at es k).instance (slice_index missing (entry_at es k).instance - 1))
closing_step net es on marking done p k old new order order' missing packed next inside closing adds =
    let i = (entry_at es k).instance in
    let long = closing.missing_long in
    let within : i < length missing = omega arith in
    let waits = closing.waits i inside in
    let step = waiting_step net es done p k old next in
    let closed : IsClosed net on (last_stage net on marking) = last_stage-closed net on marking in
    let set_long : length new ≡ places net = adds.as_long ∙ closing.set_long in
    record {
      set_long = set_long;
      missing_long = length-set missing i (slice_index missing i - 1) ∙ long;
      listed = adds.listed;
      marked = λ q some. adds.keeps q (closing.marked q some);
      sound = λ q now. elim (adds.only q now) [
        | inl had ↦ closing.sound q had
        | inr added ↦
            closed.outputs i q inside added.1
            (inputs-from net (last_stage net on marking) i (λ r low takes. closing.sound r (inputs_in net es on marking done p k old order missing packed next inside closing added.0 r takes)))
            (let low = within_set new q now in omega arith) added.2
      ];
      waits = λ j low. elim (cases_eq j i) [
        | inl here ↦
            let now = get_or-set_same missing i (slice_index missing i - 1) 0 within in
            let moved = ap (slice_index (set missing i (slice_index missing i - 1))) here in
            let back = ap (waiting es (spent_to es done p (k + 1))) here in
            omega arith
        | inr away ↦
            get_or-set_other missing i j (slice_index missing i - 1) 0 away ∙ closing.waits j low
            ∙ waiting-other es (spent_to es done p k) (spent_to es done p (k + 1)) j k (λ own. away (sym own)) (λ h below apart. spent_other es done p k h apart)
      ];
      served = λ j q low active none puts. elim (cases_eq j i) [
        | inl here ↦
            let now = get_or-set_same missing i (slice_index missing i - 1) 0 within in
            let moved = ap (slice_index (set missing i (slice_index missing i - 1))) here in
            let last : slice_index missing i ≡ 1 = omega arith in
            adds.all q (last, ap (has on) (sym here) ∙ active, subst (λ h. 0 < post net h q) here puts)
        | inr away ↦ adds.keeps q (closing.served j q low active (sym (get_or-set_other missing i j (slice_index missing i - 1) 0 away) ∙ none) puts)
      ];
    }

-- the same entries are spent
closing_like : (net : NetSystem) (es : List Entry) (on : List Bool) (marking : List ℕ) (upto : ℕ) (s s' : ℕ → Bool) (set' : List Bool) (order missing : List ℕ)
    → ((k : ℕ) → k < length es → s k ≡ s' k) → IsClosing net es on marking upto s set' order missing → IsClosing net es on marking upto s' set' order missing
closing_like net es on marking upto s s' set' order missing same closing = record {
  set_long = closing.set_long;
  missing_long = closing.missing_long;
  listed = closing.listed;
  marked = closing.marked;
  sound = closing.sound;
  waits = λ i inside. closing.waits i inside ∙ waiting-same es s s' i same;
  served = closing.served;
}

pub closing_begin : (net : NetSystem) (es : List Entry) (on : List Bool) (marking done : List ℕ) (p : ℕ) (set' : List Bool) (order missing : List ℕ) → IsPackedOf net es
    → IsClosing net es on marking (size net) (spent es done) set' order missing → IsClosing net es on marking (size net) (spent_to es done p (count_by (λ f. nat_lt f.place p) es)) set' order missing
closing_begin net es on marking done p set' order missing packed closing =
    closing_like net es on marking (size net) (spent es done) (spent_to es done p (count_by (λ f. nat_lt f.place p) es)) set' order missing (λ k low. spent_begin es done p k packed.rising low) closing

pub closing_end : (net : NetSystem) (es : List Entry) (on : List Bool) (marking done : List ℕ) (p : ℕ) (set' : List Bool) (order missing : List ℕ) → IsPackedOf net es
    → IsClosing net es on marking (size net) (spent_to es done p (count_by (λ f. nat_lt f.place (p + 1)) es)) set' order missing → IsClosing net es on marking (size net) (spent es (done ++ p ∷ [])) set' order missing
closing_end net es on marking done p set' order missing packed closing =
    closing_like net es on marking (size net) (spent_to es done p (count_by (λ f. nat_lt f.place (p + 1)) es)) (spent es (done ++ p ∷ [])) set' order missing (λ k low. spent_end es done p k packed.rising low) closing

pub left_begin : (net : NetSystem) (es : List Entry) (done : List ℕ) (p : ℕ) → IsPackedOf net es → left es (spent es done) ≡ left es (spent_to es done p (count_by (λ f. nat_lt f.place p) es))
left_begin net es done p packed = left-same es (spent es done) (spent_to es done p (count_by (λ f. nat_lt f.place p) es)) (λ k low. spent_begin es done p k packed.rising low)

pub left_end : (net : NetSystem) (es : List Entry) (done : List ℕ) (p : ℕ) → IsPackedOf net es → left es (spent_to es done p (count_by (λ f. nat_lt f.place (p + 1)) es)) ≡ left es (spent es (done ++ p ∷ []))
left_end net es done p packed = left-same es (spent_to es done p (count_by (λ f. nat_lt f.place (p + 1)) es)) (spent es (done ++ p ∷ [])) (λ k low. spent_end es done p k packed.rising low)
