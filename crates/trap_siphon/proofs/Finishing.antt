-- The beginning and the end of a closure, and the places between.
use Rattle.std.proofs.Common.{◌≡◌, ℕ, zero, suc, ◌+◌, ◌<◌, ◌≤◌, Bool, true, false, not, ◌&&◌, ◌||◌, ◌⊎◌, nat_eq, nat_lt, inl, inr, List, [], ◌∷◌, length, filter, get_or, take, arith, refl, ap, subst, sym, ◌∙◌, count_by, slice_index, ext_get_or, take_all}
use Rattle.std.proofs.lemmas.Bool.{cases_lt, cases_Bool, false≢true, or_cases, and_parts, false_from_ne_true, ltb-true}
use Rattle.std.proofs.lemmas.List.{length-map, get_or_past}
use Rattle.std.proofs.lemmas.List.Sums.{count_by-le-length}
use Rattle.wide_sums.specs.declared.rows.Cell.{Cell}
use Rattle.wide_sums.specs.Cells.{amount}
use Rattle.pt_net.specs.Systems.{NetSystem, instance_at, places, size, post}
use Rattle.pt_net.specs.declared.packed.Entry.{Entry}
use Rattle.trap_siphon.specs.Sets.{has, some_below}
use Rattle.trap_siphon.specs.Stages.{has_inputs, next_stage, stage, last_stage}
use Rattle.pt_net.specs.Packing.{cell_of, is_of, IsPackedOf, entry_at}
use Rattle.trap_siphon.specs.Closing.{count_below, spent, waiting, left, IsListed, Adds, IsClosing, HasInputCounts}
use Rattle.trap_siphon.proofs.Adding.{taken_in, taken_apart}
use Rattle.trap_siphon.proofs.Counting.{count-same, count-list, counts_yes, counts_no}
use Rattle.trap_siphon.proofs.Entries.{entry_in_row, parted}
use Rattle.trap_siphon.proofs.Members.{set_of-parts, some-at, within_set}
use Rattle.trap_siphon.proofs.Spending.{IsNext, waiting-none}
use Rattle.trap_siphon.proofs.Stages.{inputs-at, inputs-from, stage-marked, IsClosed, last_stage-closed, length-stage}

-- the entries of a place, in turn
pub next_is : (net : NetSystem) (es : List Entry) (old new : List Bool) (order : List ℕ) (next p k : ℕ) → IsPackedOf net es → IsListed old order → next < length order → p ≡ get_or order next 0
    → count_by (λ f. nat_lt f.place p) es ≤ k → k < count_by (λ f. nat_lt f.place (p + 1)) es → ((q : ℕ) → has old q ≡ true → has new q ≡ true) → IsNext net es (take next order) p k new
next_is net es old new order next p k packed listed within here from to keeps =
    let most = count_by-le-length (λ (f : Entry). nat_lt f.place (p + 1)) es in
    let low : k < length es = omega arith in
    let lower = (parted es (p + 1) k packed.rising low).below to in
    let upper : p ≤ (entry_at es k).place = elim (cases_lt (entry_at es k).place p) [
      | inl below ↦ let before = (parted es p k packed.rising low).from below in absurd (omega arith)
      | inr above ↦ above
    ] in
    record {
      low = low;
      here = omega arith;
      fresh = taken_apart old order next p listed within here;
      done_in = λ q now. keeps q (taken_in old order next q listed now);
      place_in = keeps p (ap (has old) here ∙ listed.in_set next 0 within);
    }

-- the same for the numbers that the code has, with the range of its instance
pub record AtEntry (net : NetSystem) (es : List Entry) (done : List ℕ) (p k : ℕ) (new : List Bool) : Type 0 where
  pub next : IsNext net es done p k new
  pub inside : (entry_at es k).instance < size net

pub at_entry : (net : NetSystem) (es : List Entry) (old new : List Bool) (order : List ℕ) (next p k from to : ℕ) → IsPackedOf net es → IsListed old order → next < length order → p ≡ get_or order next 0
    → from ≡ count_by (λ f. nat_lt f.place p) es → to ≡ count_by (λ f. nat_lt f.place (p + 1)) es → from ≤ k → k < to → ((q : ℕ) → has old q ≡ true → has new q ≡ true) → AtEntry net es (take next order) p k new
at_entry net es old new order next p k from to packed listed within here is_from is_to above below keeps =
    let at = next_is net es old new order next p k packed listed within here (omega arith) (omega arith) keeps in
    record { next = at; inside = packed.instances k (record { place = 0; instance = 0; weight = 0 }) at.low }

-- a row without cells
row_none : (row : List Cell) (q : ℕ) → length row ≡ 0 → amount q row ≡ 0
row_none [] q none = refl
row_none (c ∷ cs) q none = absurd (omega arith)

-- at the start every entry waits
and_true : (b : Bool) → (b && true) ≡ b
and_true true = refl
and_true false = refl

first_waits : (net : NetSystem) (es : List Entry) (i : ℕ) → IsPackedOf net es → i < size net → length (instance_at net i).pre ≡ waiting es (spent es []) i
unfolding waiting
first_waits net es i packed inside =
    ap (λ (row : List Cell). length row) (sym (packed.each i inside))
    ∙ length-map (filter (is_of i) es) cell_of
    ∙ sym (count-list (is_of i) es (record { place = 0; instance = 0; weight = 0 }))
    ∙ count-same (length es) (λ k. is_of i (entry_at es k)) (λ k. nat_eq (entry_at es k).instance i && not (spent es [] k)) (λ k low. sym (and_true (nat_eq (entry_at es k).instance i)))

some_within : (counts : List ℕ) (p : ℕ) → 0 < slice_index counts p → p < length counts
some_within counts p some = elim (cases_lt p (length counts)) [
  | inl within ↦ within
  | inr past ↦ let none = get_or_past counts p 0 past in absurd (omega arith)
]

pub closing_first : (net : NetSystem) (es : List Entry) (on : List Bool) (marking : List ℕ) (s t u : List Bool) (a b c missing : List ℕ) → IsPackedOf net es
    → length marking ≡ places net → length s ≡ places net → ((p : ℕ) → has s p ≡ false) → HasInputCounts net missing
    → Adds (λ p. 0 < slice_index marking p) s t a b
    → Adds (λ p. (i : ℕ) × (i < size net) × (slice_index missing i ≡ 0) × (has on i ≡ true) × (0 < post net i p)) t u b c
    → IsClosing net es on marking (size net) (spent es []) u c missing
closing_first net es on marking s t u a b c missing packed long set_long empty counts marks frees =
    let closed : IsClosed net on (last_stage net on marking) = last_stage-closed net on marking in
    let u_long : length u ≡ places net = frees.as_long ∙ marks.as_long ∙ set_long in
    record {
      set_long = u_long;
      missing_long = counts.as_long;
      listed = frees.listed;
      marked = λ p some. frees.keeps p (marks.all p some);
      sound = λ p now. elim (frees.only p now) [
        | inl before ↦ elim (marks.only p before) [
          | inl had ↦ absurd (false≢true (sym (empty p) ∙ had))
          | inr some ↦ stage-marked net on marking (places net) p (let low = some_within marking p some in omega arith) some
        ]
        | inr free ↦
            closed.outputs free.0 p free.1 free.3
            (inputs-from net (last_stage net on marking) free.0 (λ q low takes.
            let each = counts.each free.0 free.1 in
            let none = free.2 in
            let nothing = row_none (instance_at net free.0).pre q (omega arith) in
            absurd (omega arith)))
            (let low = within_set u p now in omega arith) free.4
      ];
      waits = λ i inside. counts.each i inside ∙ first_waits net es i packed inside;
      served = λ i p inside active none puts. frees.all p (i, inside, none, active, puts);
    }

-- how much is left is no more than all
count_most : (n : ℕ) (f : ℕ → Bool) → count_below n f ≤ n
count_most zero f = omega arith
count_most (suc n) f = elim (cases_Bool (f n)) [
  | inl passes ↦ let rest = count_most n f in let sum = counts_yes n f passes in omega arith
  | inr fails ↦ let rest = count_most n f in let sum = counts_no n f fails in omega arith
]

pub left_most : (es : List Entry) (s : ℕ → Bool) → left es s ≤ length es
unfolding left
left_most es s = count_most (length es) (λ k. not (s k))

-- what the next stage has
pub next-parts : (net : NetSystem) (on s : List Bool) (p : ℕ) → has (next_stage net on s) p ≡ true → (has s p ≡ true) ⊎ ((i : ℕ) × (i < size net) × (has on i ≡ true) × (has_inputs net s i ≡ true) × (0 < post net i p) × (p < places net))
unfolding next_stage
next-parts net on s p now =
    let parts = set_of-parts (places net) (λ q. has s q || some_below (size net) (λ i. has on i && (has_inputs net s i && nat_lt 0 (post net i q)))) p now in
    elim (or_cases (has s p) (some_below (size net) (λ i. has on i && (has_inputs net s i && nat_lt 0 (post net i p)))) parts.1) [
      | inl had ↦ inl had
      | inr some ↦
          let found = some-at (size net) (λ i. has on i && (has_inputs net s i && nat_lt 0 (post net i p))) some in
          let active = and_parts (has on found.0) (has_inputs net s found.0 && nat_lt 0 (post net found.0 p)) found.2 in
          let inputs = and_parts (has_inputs net s found.0) (nat_lt 0 (post net found.0 p)) active.1 in
          inr (found.0, found.1, active.0, inputs.0, ltb-true 0 (post net found.0 p) inputs.1, parts.0)
    ]

-- a closed set with the marked places has each stage
pub stage_within : (net : NetSystem) (on : List Bool) (marking : List ℕ) (s : List Bool) → IsClosed net on s → ((p : ℕ) → 0 < slice_index marking p → has s p ≡ true) → (j p : ℕ) → has (stage net on marking j) p ≡ true → has s p ≡ true
unfolding stage
stage_within net on marking s closed marked zero p now = marked p (ltb-true 0 (slice_index marking p) (set_of-parts (places net) (λ q. nat_lt 0 (slice_index marking q)) p now).1)
stage_within net on marking s closed marked (suc j) p now = elim (next-parts net on (stage net on marking j) p now) [
  | inl had ↦ stage_within net on marking s closed marked j p had
  | inr new ↦
      closed.outputs new.0 p new.1 new.2
      (inputs-from net s new.0 (λ q low takes. stage_within net on marking s closed marked j q (inputs-at net (stage net on marking j) new.0 new.3 q low takes)))
      new.5 new.4
]

same_bool : (a b : Bool) → (a ≡ true → b ≡ true) → (b ≡ true → a ≡ true) → a ≡ b
same_bool true b there back = sym (there refl)
same_bool false b there back = sym (false_from_ne_true b (λ on. false≢true (back on)))

-- where all places of the list are spent, the set is closed
pub closing_closed : (net : NetSystem) (es : List Entry) (on : List Bool) (marking : List ℕ) (s : List Bool) (order missing : List ℕ) → IsPackedOf net es
    → IsClosing net es on marking (size net) (spent es order) s order missing → IsClosed net on s
closing_closed net es on marking s order missing packed closing = record {
  outputs = λ i p inside active inputs low puts.
      let none = waiting-none es (spent es order) i (λ j within own.
      let row = ap (amount (entry_at es j).place) (packed.each i inside) in
      let weight = entry_in_row es i j within own in
      let counted : 0 < (entry_at es j).weight = packed.counted j (record { place = 0; instance = 0; weight = 0 }) within in
      let place : (entry_at es j).place < places net = packed.places j (record { place = 0; instance = 0; weight = 0 }) within in
      closing.listed.in_order (entry_at es j).place (inputs-at net s i inputs (entry_at es j).place place (omega arith))) in
      closing.served i p inside active (closing.waits i inside ∙ none) puts;
}

pub closing_done : (net : NetSystem) (es : List Entry) (on : List Bool) (marking : List ℕ) (s : List Bool) (order missing : List ℕ) (next : ℕ) → IsPackedOf net es → length order ≤ next
    → IsClosing net es on marking (size net) (spent es (take next order)) s order missing → s ≡ last_stage net on marking
closing_done net es on marking s order missing next packed past closing =
    let whole = subst (λ (done : List ℕ). IsClosing net es on marking (size net) (spent es done) s order missing) (take_all next order past) closing in
    let closed = closing_closed net es on marking s order missing packed whole in
    ext_get_or false s (last_stage net on marking) (closing.set_long ∙ sym (length-stage net on marking (places net))) (λ p within.
    same_bool (has s p) (has (last_stage net on marking) p) (closing.sound p) (stage_within net on marking s closed closing.marked (places net) p))
