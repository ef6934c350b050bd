-- Runs of a net and of its reduced net.
use Rattle.std.proofs.Common.{◌≡◌, ℕ, suc, ◌+◌, ◌<◌, ◌≤◌, Bool, true, false, cond, not, inl, inr, List, [], ◌∷◌, length, get_or, arith, refl, ap, subst, sym, ◌∙◌, slice_index}
use Rattle.std.proofs.lemmas.Bool.{cases_lt, cases_Bool, not-true, not_from_false}
use Rattle.std.proofs.lemmas.List.{length-map, get_or_past, get_or-map, ext_get_or}
use Rattle.std.proofs.lemmas.List.FromFn.{length-map-range_with_len, get_or-map-range_with_len}
use Rattle.wide_sums.specs.Cells.{amount}
use Rattle.pt_net.specs.declared.instances.Instance.{Instance}
use Rattle.pt_net.specs.Firing.{Fires}
use Rattle.pt_net.specs.Markings.{IsInRange}
use Rattle.pt_net.specs.Systems.{NetSystem, IsSystem, instance_at, Run, PtReach, places, size, pre, post}
use Rattle.trap_siphon.specs.Sets.{has}
use Rattle.reductions.specs.Numbers.{numbers, rank}
use Rattle.reductions.specs.Rounds.{undead, constant, live}
use Rattle.reductions.specs.Reduced.{kept, row_on, instance_on, reduced_by, reduced_over, without_constants, with_constants}
use Rattle.reductions.specs.Laws.{KeepsConstants}
use Rattle.reductions.proofs.Numbers.{stands_at, numbered}
use Rattle.reductions.proofs.Rows.{amount-on, amount-past, amount-outside, length-on, count-at, count-past}
use Rattle.reductions.proofs.Kept.{Agree, kept-live, represented}
use Rattle.reductions.proofs.Runs.{AreEnabled, seen_reach, seen_live, reach_more, unchanged-at, unchanged-within, live-undead, live-fits}

none : Instance
none = record { transition = 0; binding = 0; pre = []; post = [] }

-- the places that stay, and their numbers
abbrev pub stays_in : List Bool → ℕ → Bool
stays_in still p = not (has still p)

abbrev staying : NetSystem → List Bool → List ℕ
staying net still = numbers (places net) (stays_in still)

-- what holds at the number of each place that stays, and past them, holds at each number
pub each_on : (net : NetSystem) (still : List Bool) (P : ℕ → Type 0) → ((p : ℕ) → p < places net → has still p ≡ false → P (rank (stays_in still) p)) → ((q : ℕ) → length (staying net still) ≤ q → P q) → (q : ℕ) → P q
each_on net still P at past q = elim (cases_lt q (length (staying net still))) [
  | inl within ↦
      let p = get_or (staying net still) q 0 in
      let here = numbered (places net) (stays_in still) q within in
      subst P here.rank (at p here.below (not-true (has still p) here.passes))
  | inr beyond ↦ past q beyond
]

-- the parts of the reduced net
red_initial : (net : NetSystem) (still ks : List Bool) → (reduced_by net still ks).initial ≡ without_constants net still net.initial
unfolding reduced_by without_constants
red_initial net still ks = refl

red_size : (net : NetSystem) (still ks : List Bool) → length (reduced_by net still ks).instances ≡ length (numbers (size net) (has ks))
unfolding reduced_by
red_size net still ks = length-map (numbers (size net) (has ks)) (λ i. instance_on (stays_in still) (instance_at net i))

red_at : (net : NetSystem) (still ks : List Bool) (a : ℕ) → a < length (numbers (size net) (has ks))
    → instance_at (reduced_by net still ks) a ≡ instance_on (stays_in still) (instance_at net (get_or (numbers (size net) (has ks)) a 0))
unfolding reduced_by
red_at net still ks a within = get_or-map (λ i. instance_on (stays_in still) (instance_at net i)) (numbers (size net) (has ks)) a 0 (record { transition = 0; binding = 0; pre = []; post = [] }) within

-- the counts without and with the constant places
without_length : (net : NetSystem) (still : List Bool) (marking : List ℕ) → length (without_constants net still marking) ≡ length (staying net still)
unfolding without_constants
without_length net still marking = length-on net (stays_in still) marking

without_at : (net : NetSystem) (still : List Bool) (marking : List ℕ) (p : ℕ) → p < places net → has still p ≡ false → slice_index (without_constants net still marking) (rank (stays_in still) p) ≡ slice_index marking p
unfolding without_constants
without_at net still marking p low changes = count-at net (stays_in still) marking p low (not_from_false (has still p) changes)

without_past : (net : NetSystem) (still : List Bool) (marking : List ℕ) (q : ℕ) → length (staying net still) ≤ q → slice_index (without_constants net still marking) q ≡ 0
unfolding without_constants
without_past net still marking q past = count-past net (stays_in still) marking q past

with_length : (net : NetSystem) (still : List Bool) (counts : List ℕ) → length (with_constants net still counts) ≡ places net
unfolding with_constants
with_length net still counts = length-map-range_with_len (λ p. cond (has still p) (slice_index net.initial p) (slice_index counts (rank (stays_in still) p))) 0 (places net)

with_at : (net : NetSystem) (still : List Bool) (counts : List ℕ) (p : ℕ) → p < places net → slice_index (with_constants net still counts) p ≡ cond (has still p) (slice_index net.initial p) (slice_index counts (rank (stays_in still) p))
unfolding with_constants
with_at net still counts p low = get_or-map-range_with_len (λ q. cond (has still q) (slice_index net.initial q) (slice_index counts (rank (stays_in still) q))) 0 (places net) p p 0 low (omega arith)

with_still : (net : NetSystem) (still : List Bool) (counts : List ℕ) (p : ℕ) → p < places net → has still p ≡ true → slice_index (with_constants net still counts) p ≡ slice_index net.initial p
with_still net still counts p low is = with_at net still counts p low ∙ ap (λ (b : Bool). cond b (slice_index net.initial p) (slice_index counts (rank (stays_in still) p))) is

with_changing : (net : NetSystem) (still : List Bool) (counts : List ℕ) (p : ℕ) → p < places net → has still p ≡ false → slice_index (with_constants net still counts) p ≡ slice_index counts (rank (stays_in still) p)
with_changing net still counts p low is = with_at net still counts p low ∙ ap (λ (b : Bool). cond b (slice_index net.initial p) (slice_index counts (rank (stays_in still) p))) is

-- leaving them out and putting them back
pub without-with : (net : NetSystem) (still : List Bool) (counts : List ℕ) → length counts ≡ length (staying net still) → without_constants net still (with_constants net still counts) ≡ counts
without-with net still counts long =
    ext_get_or 0 (without_constants net still (with_constants net still counts)) counts (without_length net still (with_constants net still counts) ∙ sym long) (λ q within.
    each_on net still (λ r. slice_index (without_constants net still (with_constants net still counts)) r ≡ slice_index counts r)
    (λ p low changes. without_at net still (with_constants net still counts) p low changes ∙ with_changing net still counts p low changes)
    (λ r past. without_past net still (with_constants net still counts) r past ∙ sym (get_or_past counts r 0 (let l = long in omega arith)))
    q)

pub with-without : (net : NetSystem) (still : List Bool) (marking : List ℕ) → KeepsConstants net still marking → with_constants net still (without_constants net still marking) ≡ marking
with-without net still marking keeps =
    let long = with_length net still (without_constants net still marking) in
    ext_get_or 0 (with_constants net still (without_constants net still marking)) marking (long ∙ sym keeps.as_long) (λ p within.
    let low : p < places net = omega arith in
    elim (cases_Bool (has still p)) [
      | inl is ↦ with_still net still (without_constants net still marking) p low is ∙ sym (keeps.same p is)
      | inr changes ↦ with_changing net still (without_constants net still marking) p low changes ∙ without_at net still marking p low changes
    ])

-- the rows of an instance are in range
pub record InRange (net : NetSystem) (i : ℕ) : Type 0 where
  pub pre : IsInRange (places net) (instance_at net i).pre
  pub post : IsInRange (places net) (instance_at net i).post

pub rows_in_range : (net : NetSystem) (i : ℕ) → IsSystem net → i < size net → InRange net i
rows_in_range net i is_system inside = record {
  pre = is_system.inputs_in_range i (record { transition = 0; binding = 0; pre = []; post = [] }) inside;
  post = is_system.outputs_in_range i (record { transition = 0; binding = 0; pre = []; post = [] }) inside;
}

-- a firing, seen in the reduced net as that of an instance that is equal there
fires_down : (net : NetSystem) (still : List Bool) (old new : List ℕ) (i j : ℕ) → InRange net j → Agree net still j i → Fires old (instance_at net i) new
    → Fires (without_constants net still old) (instance_on (stays_in still) (instance_at net j)) (without_constants net still new)
fires_down net still old new i j range agree fires = record {
  enabled = each_on net still (λ q. amount q (row_on (stays_in still) (instance_at net j).pre) ≤ slice_index (without_constants net still old) q)
      (λ p low changes.
      let takes = amount-on (places net) (stays_in still) p (instance_at net j).pre low (not_from_false (has still p) changes) range.pre in
      let has_it = without_at net still old p low changes in
      let same = agree.pre p low changes in
      let enough = fires.enabled p in
      omega arith)
      (λ q past. let nothing = amount-past (places net) (stays_in still) q (instance_at net j).pre past range.pre in omega arith);
  as_long = without_length net still new ∙ sym (without_length net still old);
  moved = each_on net still (λ q. slice_index (without_constants net still new) q + amount q (row_on (stays_in still) (instance_at net j).pre) ≡ slice_index (without_constants net still old) q + amount q (row_on (stays_in still) (instance_at net j).post))
      (λ p low changes.
      let takes = amount-on (places net) (stays_in still) p (instance_at net j).pre low (not_from_false (has still p) changes) range.pre in
      let puts = amount-on (places net) (stays_in still) p (instance_at net j).post low (not_from_false (has still p) changes) range.post in
      let had = without_at net still old p low changes in
      let now = without_at net still new p low changes in
      let same = agree.pre p low changes in
      let same' = agree.post p low changes in
      let moves = fires.moved p in
      omega arith)
      (λ q past.
      let takes = amount-past (places net) (stays_in still) q (instance_at net j).pre past range.pre in
      let puts = amount-past (places net) (stays_in still) q (instance_at net j).post past range.post in
      let had = without_past net still old q past in
      let now = without_past net still new q past in
      omega arith);
}

-- an instance that takes no more from the constant places than is there, and changes none
record LeavesStill (net : NetSystem) (still : List Bool) (i : ℕ) : Type 0 where
  fits : (p : ℕ) → p < places net → has still p ≡ true → pre net i p ≤ slice_index net.initial p
  even : (p : ℕ) → has still p ≡ true → pre net i p ≡ post net i p

-- a firing of the reduced net, seen in the net
fires_up : (net : NetSystem) (still : List Bool) (old counts : List ℕ) (i : ℕ) → InRange net i → LeavesStill net still i → KeepsConstants net still old
    → Fires (without_constants net still old) (instance_on (stays_in still) (instance_at net i)) counts
    → Fires old (instance_at net i) (with_constants net still counts)
fires_up net still old counts i range leaves keeps fires = record {
  enabled = λ p. elim (cases_lt p (places net)) [
    | inl low ↦ elim (cases_Bool (has still p)) [
      | inl is ↦ let enough = leaves.fits p low is in let same = keeps.same p is in omega arith
      | inr changes ↦
          let takes = amount-on (places net) (stays_in still) p (instance_at net i).pre low (not_from_false (has still p) changes) range.pre in
          let had = without_at net still old p low changes in
          let enough = fires.enabled (rank (stays_in still) p) in
          omega arith
    ]
    | inr past ↦ let nothing = amount-outside (places net) p (instance_at net i).pre past range.pre in omega arith
  ];
  as_long = with_length net still counts ∙ sym keeps.as_long;
  moved = λ p. elim (cases_lt p (places net)) [
    | inl low ↦ elim (cases_Bool (has still p)) [
      | inl is ↦
          let even = leaves.even p is in
          let same = keeps.same p is in
          let now = with_still net still counts p low is in
          omega arith
      | inr changes ↦
          let takes = amount-on (places net) (stays_in still) p (instance_at net i).pre low (not_from_false (has still p) changes) range.pre in
          let puts = amount-on (places net) (stays_in still) p (instance_at net i).post low (not_from_false (has still p) changes) range.post in
          let had = without_at net still old p low changes in
          let now = with_changing net still counts p low changes in
          let moves = fires.moved (rank (stays_in still) p) in
          omega arith
    ]
    | inr past ↦
        let takes = amount-outside (places net) p (instance_at net i).pre past range.pre in
        let puts = amount-outside (places net) p (instance_at net i).post past range.post in
        let long = keeps.as_long in
        let long' = with_length net still counts in
        let had = get_or_past old p 0 (omega arith) in
        let now = get_or_past (with_constants net still counts) p 0 (omega arith) in
        omega arith
  ];
}

keeps_with : (net : NetSystem) (on : List Bool) (counts : List ℕ) → KeepsConstants net (constant net on) (with_constants net (constant net on) counts)
keeps_with net on counts = record {
  as_long = with_length net (constant net on) counts;
  same = λ p is. with_still net (constant net on) counts p (unchanged-within net (undead net on) p is) is;
}

leaves_still : (net : NetSystem) (on : List Bool) (i : ℕ) → has (live net on) i ≡ true → LeavesStill net (constant net on) i
leaves_still net on i here =
    let alive = live-undead net (undead net on) (constant net on) i here in
    record {
      fits = λ p low is. live-fits net (undead net on) (constant net on) i p here low is;
      even = λ p is. unchanged-at net (undead net on) p i is alive.0 alive.1;
    }

abbrev kept_over : NetSystem → List Bool → List Bool
kept_over net on = kept net (constant net on) (live net on)

-- runs of the net, in the reduced net
run_down : (net : NetSystem) (on : List Bool) → IsSystem net → AreEnabled net on → (is old new : List ℕ) → PtReach net old → Run net old is new
    → (js : List ℕ) × Run (reduced_over net on) (without_constants net (constant net on) old) js (without_constants net (constant net on) new)
run_down net on is_system all [] old new reach run = ([], ap (without_constants net (constant net on)) run)
run_down net on is_system all (i ∷ is) old new reach run =
    let mid = run.1.0 in
    let fires : Fires old (instance_at net i) mid = run.1.1.0 in
    let here = seen_live net on old i (seen_reach net on old all reach) run.0 (all old i reach run.0 fires.enabled) fires.enabled in
    let found = represented net (constant net on) (live net on) (suc i) i (omega arith) run.0 here in
    let j = found.0 in
    let inside : j < size net = (kept-live net (constant net on) (live net on) j found.1.is_kept).0 in
    let at = stands_at (size net) (has (kept_over net on)) j inside found.1.is_kept in
    let step = fires_down net (constant net on) old mid i j (rows_in_range net j is_system inside) found.1.agree fires in
    let is_at : instance_at (reduced_over net on) (rank (has (kept_over net on)) j) ≡ instance_on (stays_in (constant net on)) (instance_at net j) =
    red_at net (constant net on) (kept_over net on) (rank (has (kept_over net on)) j) at.within ∙ ap (λ k. instance_on (stays_in (constant net on)) (instance_at net k)) at.is in
    let rest = run_down net on is_system all is mid new (reach_more net old mid i reach run.0 fires) run.1.1.1 in
    let many = red_size net (constant net on) (kept_over net on) in
    let low : rank (has (kept_over net on)) j < length (reduced_over net on).instances = (let w = at.within in omega arith) in
    let first : Fires (without_constants net (constant net on) old) (instance_at (reduced_over net on) (rank (has (kept_over net on)) j)) (without_constants net (constant net on) mid) =
    subst (λ (t : Instance). Fires (without_constants net (constant net on) old) t (without_constants net (constant net on) mid)) (sym is_at) step in
    (rank (has (kept_over net on)) j ∷ rest.0, (low, (without_constants net (constant net on) mid, (first, rest.1))))

-- runs of the reduced net, in the net
run_up : (net : NetSystem) (on : List Bool) → IsSystem net → (js old counts : List ℕ) → KeepsConstants net (constant net on) old → Run (reduced_over net on) (without_constants net (constant net on) old) js counts
    → (is : List ℕ) × Run net old is (with_constants net (constant net on) counts)
run_up net on is_system [] old counts keeps run = ([], ap (with_constants net (constant net on)) run ∙ with-without net (constant net on) old keeps)
run_up net on is_system (a ∷ js) old counts keeps run =
    let mid = run.1.0 in
    let many = red_size net (constant net on) (kept_over net on) in
    let low : a < length (numbers (size net) (has (kept_over net on))) = (let l = run.0 in omega arith) in
    let here = numbered (size net) (has (kept_over net on)) a low in
    let i = get_or (numbers (size net) (has (kept_over net on))) a 0 in
    let alive = kept-live net (constant net on) (live net on) i here.passes in
    let fires : Fires (without_constants net (constant net on) old) (instance_on (stays_in (constant net on)) (instance_at net i)) mid =
    subst (λ (t : Instance). Fires (without_constants net (constant net on) old) t mid) (red_at net (constant net on) (kept_over net on) a low) run.1.1.0 in
    let step = fires_up net (constant net on) old mid i (rows_in_range net i is_system alive.0) (leaves_still net on i alive.1) keeps fires in
    let back = without-with net (constant net on) mid (fires.as_long ∙ without_length net (constant net on) old) in
    let rest = run_up net on is_system js (with_constants net (constant net on) mid) counts (keeps_with net on mid)
    (subst (λ (m : List ℕ). Run (reduced_over net on) m js counts) (sym back) run.1.1.1) in
    (i ∷ rest.0, (alive.0, (with_constants net (constant net on) mid, (step, rest.1))))

-- the law, over any round
pub reach_down : (net : NetSystem) (on : List Bool) (marking : List ℕ) → IsSystem net → AreEnabled net on → PtReach net marking
    → KeepsConstants net (constant net on) marking × PtReach (reduced_over net on) (without_constants net (constant net on) marking)
reach_down net on marking is_system all reach =
    let seen = seen_reach net on marking all reach in
    let run = run_down net on is_system all reach.0 net.initial marking ([], refl) reach.1 in (
      record { as_long = seen.as_long; same = seen.still },
      (run.0, subst (λ (m : List ℕ). Run (reduced_over net on) m run.0 (without_constants net (constant net on) marking)) (sym (red_initial net (constant net on) (kept_over net on))) run.1),
    )

pub reach_up : (net : NetSystem) (on : List Bool) (marking : List ℕ) → IsSystem net → KeepsConstants net (constant net on) marking → PtReach (reduced_over net on) (without_constants net (constant net on) marking) → PtReach net marking
reach_up net on marking is_system keeps reach =
    let run = run_up net on is_system reach.0 net.initial (without_constants net (constant net on) marking) (record { as_long = refl; same = λ p is. refl })
    (subst (λ (m : List ℕ). Run (reduced_over net on) m reach.0 (without_constants net (constant net on) marking)) (red_initial net (constant net on) (kept_over net on)) reach.1) in
    (run.0, subst (λ (m : List ℕ). Run net net.initial run.0 m) (with-without net (constant net on) marking keeps) run.1)

-- the reduced net has the places that stay
pub reduced_places : (net : NetSystem) (still ks : List Bool) → places (reduced_by net still ks) ≡ length (staying net still)
reduced_places net still ks = ap length (red_initial net still ks) ∙ without_length net still net.initial
