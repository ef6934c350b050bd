-- What is true of each marking that is reached, while only active instances fire.
use Rattle.std.proofs.Common.{◌≡◌, ℕ, zero, suc, ◌<◌, ◌≤◌, Bool, true, ◌&&◌, ◌||◌, not, nat_eq, nat_le, inl, inr, List, [], ◌∷◌, ◌++◌, length, arith, refl, subst, sym, ◌∙◌, slice_index}
use Rattle.std.proofs.lemmas.Bool.{cases_lt, cases_eq, cases_Bool, and_parts, and_from, or_cases, or_left, or_right, false≢true, not-true, not_from_false, eqb-true, le-leb, leb-true}
use Rattle.std.proofs.lemmas.List.{get_or_past}
use Rattle.pt_net.specs.Firing.{IsEnabled, Fires}
use Rattle.pt_net.specs.Systems.{NetSystem, instance_at, Run, PtReach, places, size, pre, post}
use Rattle.trap_siphon.specs.Sets.{has, each_below}
use Rattle.trap_siphon.specs.Stages.{has_inputs}
use Rattle.reductions.specs.Rounds.{marked, undead_over, undead, unchanged, constant, unblocked, live, active}
use Rattle.trap_siphon.proofs.Members.{set_of-parts, set_of-from, each-at, each-from}
use Rattle.trap_siphon.proofs.Stages.{inputs-from, stage-marked, last_stage-closed, IsClosed}

-- undead instances
pub undead-parts : (net : NetSystem) (on set : List Bool) (i : ℕ) → has (undead_over net on set) i ≡ true → (i < size net) × (has on i ≡ true) × (has_inputs net set i ≡ true)
unfolding undead_over
undead-parts net on set i here =
    let parts = set_of-parts (size net) (λ j. has on j && has_inputs net set j) i here in
    let both = and_parts (has on i) (has_inputs net set i) parts.1 in (parts.0, both.0, both.1)

pub undead-from : (net : NetSystem) (on set : List Bool) (i : ℕ) → i < size net → has on i ≡ true → has_inputs net set i ≡ true → has (undead_over net on set) i ≡ true
unfolding undead_over
undead-from net on set i inside here inputs = set_of-from (size net) (λ j. has on j && has_inputs net set j) i inside (and_from (has on i) (has_inputs net set i) here inputs)

-- constant places
pub unchanged-within : (net : NetSystem) (some : List Bool) (p : ℕ) → has (unchanged net some) p ≡ true → p < places net
unfolding unchanged
unchanged-within net some p here = (set_of-parts (places net) (λ q. each_below (size net) (λ i. not (has some i) || nat_eq (pre net i q) (post net i q))) p here).0

pub unchanged-at : (net : NetSystem) (some : List Bool) (p i : ℕ) → has (unchanged net some) p ≡ true → i < size net → has some i ≡ true → pre net i p ≡ post net i p
unfolding unchanged
unchanged-at net some p i here inside on =
    let all = (set_of-parts (places net) (λ q. each_below (size net) (λ j. not (has some j) || nat_eq (pre net j q) (post net j q))) p here).1 in
    elim (or_cases (not (has some i)) (nat_eq (pre net i p) (post net i p)) (each-at (size net) (λ j. not (has some j) || nat_eq (pre net j p) (post net j p)) all i inside)) [
      | inl off ↦ absurd (false≢true (sym (not-true (has some i) off) ∙ on))
      | inr equal ↦ eqb-true (pre net i p) (post net i p) equal
    ]

-- live instances
pub live-undead : (net : NetSystem) (some still : List Bool) (i : ℕ) → has (unblocked net some still) i ≡ true → (i < size net) × (has some i ≡ true)
unfolding unblocked
live-undead net some still i here =
    let parts = set_of-parts (size net) (λ j. has some j && each_below (places net) (λ p. not (has still p) || nat_le (pre net j p) (slice_index net.initial p))) i here in
    (parts.0, (and_parts (has some i) (each_below (places net) (λ p. not (has still p) || nat_le (pre net i p) (slice_index net.initial p))) parts.1).0)

pub live-fits : (net : NetSystem) (some still : List Bool) (i p : ℕ) → has (unblocked net some still) i ≡ true → p < places net → has still p ≡ true → pre net i p ≤ slice_index net.initial p
unfolding unblocked
live-fits net some still i p here within constant =
    let parts = set_of-parts (size net) (λ j. has some j && each_below (places net) (λ q. not (has still q) || nat_le (pre net j q) (slice_index net.initial q))) i here in
    let all = (and_parts (has some i) (each_below (places net) (λ q. not (has still q) || nat_le (pre net i q) (slice_index net.initial q))) parts.1).1 in
    elim (or_cases (not (has still p)) (nat_le (pre net i p) (slice_index net.initial p)) (each-at (places net) (λ q. not (has still q) || nat_le (pre net i q) (slice_index net.initial q)) all p within)) [
      | inl off ↦ absurd (false≢true (sym (not-true (has still p) off) ∙ constant))
      | inr fits ↦ leb-true (pre net i p) (slice_index net.initial p) fits
    ]

pub live-from : (net : NetSystem) (some still : List Bool) (i : ℕ) → i < size net → has some i ≡ true → ((p : ℕ) → p < places net → has still p ≡ true → pre net i p ≤ slice_index net.initial p) → has (unblocked net some still) i ≡ true
unfolding unblocked
live-from net some still i inside on fits =
    set_of-from (size net) (λ j. has some j && each_below (places net) (λ q. not (has still q) || nat_le (pre net j q) (slice_index net.initial q))) i inside
    (and_from (has some i) (each_below (places net) (λ q. not (has still q) || nat_le (pre net i q) (slice_index net.initial q))) on
    (each-from (places net) (λ q. not (has still q) || nat_le (pre net i q) (slice_index net.initial q)) (λ p within. elim (cases_Bool (has still p)) [
      | inl constant ↦ or_right (not (has still p)) (nat_le (pre net i p) (slice_index net.initial p)) (le-leb (pre net i p) (slice_index net.initial p) (fits p within constant))
      | inr changes ↦ or_left (not (has still p)) (nat_le (pre net i p) (slice_index net.initial p)) (not_from_false (has still p) changes)
    ])))

-- a marking of the right length whose marked places can be marked, with the initial counts on the constant ones
pub record Seen (net : NetSystem) (on : List Bool) (marking : List ℕ) : Type 0 where
  pub as_long : length marking ≡ places net
  pub support : (p : ℕ) → 0 < slice_index marking p → has (marked net on) p ≡ true
  pub still : (p : ℕ) → has (constant net on) p ≡ true → slice_index marking p ≡ slice_index net.initial p

-- a place that has something is a place of the net
some_within : (counts : List ℕ) (p : ℕ) → 0 < slice_index counts p → p < length counts
some_within counts p some = elim (cases_lt p (length counts)) [
  | inl within ↦ within
  | inr past ↦ let none = get_or_past counts p 0 past in absurd (omega arith)
]

pub seen_first : (net : NetSystem) (on : List Bool) → Seen net on net.initial
seen_first net on = record {
  as_long = refl;
  support = λ p some. stage-marked net on net.initial (places net) p (some_within net.initial p some) some;
  still = λ p constant. refl;
}

-- an active instance that is enabled there is undead, and live
pub seen_undead : (net : NetSystem) (on : List Bool) (marking : List ℕ) (i : ℕ) → Seen net on marking → i < size net → has on i ≡ true → IsEnabled marking (instance_at net i) → has (undead net on) i ≡ true
seen_undead net on marking i seen inside here enabled =
    undead-from net on (marked net on) i inside here (inputs-from net (marked net on) i (λ p within takes. seen.support p (let enough = enabled p in omega arith)))

pub seen_live : (net : NetSystem) (on : List Bool) (marking : List ℕ) (i : ℕ) → Seen net on marking → i < size net → has on i ≡ true → IsEnabled marking (instance_at net i) → has (live net on) i ≡ true
seen_live net on marking i seen inside here enabled =
    live-from net (undead net on) (constant net on) i inside (seen_undead net on marking i seen inside here enabled) (λ p within constant.
    let enough = enabled p in
    let same = seen.still p constant in
    omega arith)

-- one firing keeps that
pub seen_step : (net : NetSystem) (on : List Bool) (old new : List ℕ) (i : ℕ) → Seen net on old → i < size net → has on i ≡ true → Fires old (instance_at net i) new → Seen net on new
seen_step net on old new i seen inside here fires =
    let alive : has (undead net on) i ≡ true = seen_undead net on old i seen inside here fires.enabled in
    let inputs : has_inputs net (marked net on) i ≡ true = (undead-parts net on (marked net on) i alive).2 in
    let closed : IsClosed net on (marked net on) = last_stage-closed net on net.initial in
    let long : length new ≡ places net = fires.as_long ∙ seen.as_long in
    record {
      as_long = long;
      support = λ p some.
          let within : p < places net = (let low = some_within new p some in omega arith) in
          elim (cases_eq (slice_index old p) 0) [
            | inl none ↦ let moves = fires.moved p in closed.outputs i p inside here inputs within (omega arith)
            | inr had ↦ seen.support p (omega arith)
          ];
      still = λ p constant.
          let even = unchanged-at net (undead net on) p i constant inside alive in
          let moves = fires.moved p in
          let same = seen.still p constant in
          omega arith;
    }

-- one firing more
run_more : (net : NetSystem) (is : List ℕ) (old mid new : List ℕ) (i : ℕ) → Run net old is mid → i < size net → Fires mid (instance_at net i) new → Run net old (is ++ i ∷ []) new
run_more net [] old mid new i run inside fires = (inside, (new, (subst (λ (m : List ℕ). Fires m (instance_at net i) new) run fires, refl)))
run_more net (j ∷ is) old mid new i run inside fires = (run.0, (run.1.0, (run.1.1.0, run_more net is run.1.0 mid new i run.1.1.1 inside fires)))

pub reach_more : (net : NetSystem) (mid new : List ℕ) (i : ℕ) → PtReach net mid → i < size net → Fires mid (instance_at net i) new → PtReach net new
reach_more net mid new i reach inside fires = (reach.0 ++ i ∷ [], run_more net reach.0 net.initial mid new i reach.1 inside fires)

-- where each instance that is enabled at a reached marking is active, each reached marking is seen
abbrev pub AreEnabled : NetSystem → List Bool → Type 0
AreEnabled net on = (marking : List ℕ) (i : ℕ) → PtReach net marking → i < size net → IsEnabled marking (instance_at net i) → has on i ≡ true

seen_run : (net : NetSystem) (on : List Bool) → AreEnabled net on → (is old new : List ℕ) → PtReach net old → Seen net on old → Run net old is new → Seen net on new
seen_run net on all [] old new reach seen run = subst (Seen net on) (sym run) seen
seen_run net on all (i ∷ is) old new reach seen run =
    let mid = run.1.0 in
    let fires : Fires old (instance_at net i) mid = run.1.1.0 in
    let here = all old i reach run.0 fires.enabled in
    seen_run net on all is mid new (reach_more net old mid i reach run.0 fires) (seen_step net on old mid i seen run.0 here fires) run.1.1.1

pub seen_reach : (net : NetSystem) (on : List Bool) (marking : List ℕ) → AreEnabled net on → PtReach net marking → Seen net on marking
seen_reach net on marking all reach = seen_run net on all reach.0 net.initial marking ([], refl) (seen_first net on) reach.1

-- an instance that is enabled at a reached marking is live in each round
pub enabled_active : (net : NetSystem) (k : ℕ) → AreEnabled net (active net k)
unfolding active
enabled_active net zero = λ marking i reach inside enabled. set_of-from (size net) (λ j. true) i inside refl
enabled_active net (suc k) = λ marking i reach inside enabled.
    let before = enabled_active net k in
    seen_live net (active net k) marking i (seen_reach net (active net k) marking before reach) inside (before marking i reach inside enabled) enabled
