-- Each live instance is equal to a kept one.
use Rattle.std.proofs.Common.{◌≡◌, ℕ, zero, suc, ◌<◌, ◌≤◌, Bool, true, false, ◌&&◌, ◌||◌, not, nat_eq, inl, inr, List, arith, refl, sym, ◌∙◌}
use Rattle.std.proofs.lemmas.Bool.{cases_Bool, and_parts, and_from, or_cases, or_left, or_right, eq-eqb, not-true, false≢true, false_from_ne_true, not_from_false, eqb-true}
use Rattle.pt_net.specs.Systems.{NetSystem, places, size, pre, post}
use Rattle.trap_siphon.specs.Sets.{has, some_below}
use Rattle.reductions.specs.Reduced.{are_equal, kept}
use Rattle.trap_siphon.proofs.Members.{set_of-parts, set_of-from, each-at, each-from, some-at, some-from}

-- two instances are the same on the places that aren't constant
pub record Agree (net : NetSystem) (still : List Bool) (i j : ℕ) : Type 0 where
  pub pre : (p : ℕ) → p < places net → has still p ≡ false → pre net i p ≡ pre net j p
  pub post : (p : ℕ) → p < places net → has still p ≡ false → post net i p ≡ post net j p

equal_at : (net : NetSystem) (still : List Bool) (i j p : ℕ) → are_equal net still i j ≡ true → p < places net → has still p ≡ false → (pre net i p ≡ pre net j p) × (post net i p ≡ post net j p)
unfolding are_equal
equal_at net still i j p equal within changes =
    let all = each-at (places net) (λ q. has still q || (nat_eq (pre net i q) (pre net j q) && nat_eq (post net i q) (post net j q))) equal p within in
    elim (or_cases (has still p) (nat_eq (pre net i p) (pre net j p) && nat_eq (post net i p) (post net j p)) all) [
      | inl constant ↦ absurd (false≢true (sym changes ∙ constant))
      | inr both ↦
          let parts = and_parts (nat_eq (pre net i p) (pre net j p)) (nat_eq (post net i p) (post net j p)) both in
          (eqb-true (pre net i p) (pre net j p) parts.0, eqb-true (post net i p) (post net j p) parts.1)
    ]

pub agree_from : (net : NetSystem) (still : List Bool) (i j : ℕ) → are_equal net still i j ≡ true → Agree net still i j
agree_from net still i j equal = record {
  pre = λ p within changes. (equal_at net still i j p equal within changes).0;
  post = λ p within changes. (equal_at net still i j p equal within changes).1;
}

pub agree_same : (net : NetSystem) (still : List Bool) (i : ℕ) → Agree net still i i
agree_same net still i = record { pre = λ p within changes. refl; post = λ p within changes. refl }

pub agree_both : (net : NetSystem) (still : List Bool) (i j k : ℕ) → Agree net still i j → Agree net still j k → Agree net still i k
agree_both net still i j k first second = record {
  pre = λ p within changes. first.pre p within changes ∙ second.pre p within changes;
  post = λ p within changes. first.post p within changes ∙ second.post p within changes;
}

pub agree_back : (net : NetSystem) (still : List Bool) (i j : ℕ) → Agree net still i j → Agree net still j i
agree_back net still i j agree = record { pre = λ p within changes. sym (agree.pre p within changes); post = λ p within changes. sym (agree.post p within changes) }

pub equal_from : (net : NetSystem) (still : List Bool) (i j : ℕ) → Agree net still i j → are_equal net still i j ≡ true
unfolding are_equal
equal_from net still i j agree = each-from (places net) (λ p. has still p || (nat_eq (pre net i p) (pre net j p) && nat_eq (post net i p) (post net j p))) (λ p low. elim (cases_Bool (has still p)) [
  | inl is ↦ or_left (has still p) (nat_eq (pre net i p) (pre net j p) && nat_eq (post net i p) (post net j p)) is
  | inr changes ↦
      or_right (has still p) (nat_eq (pre net i p) (pre net j p) && nat_eq (post net i p) (post net j p))
      (and_from (nat_eq (pre net i p) (pre net j p)) (nat_eq (post net i p) (post net j p)) (eq-eqb (pre net i p) (pre net j p) (agree.pre p low changes)) (eq-eqb (post net i p) (post net j p) (agree.post p low changes)))
])

-- a kept instance is live, and no earlier live one equals it
pub kept-live : (net : NetSystem) (still alive : List Bool) (i : ℕ) → has (kept net still alive) i ≡ true → (i < size net) × (has alive i ≡ true)
unfolding kept
kept-live net still alive i here =
    let parts = set_of-parts (size net) (λ i. has alive i && not (some_below i (λ j. has alive j && are_equal net still j i))) i here in
    (parts.0, (and_parts (has alive i) (not (some_below i (λ j. has alive j && are_equal net still j i))) parts.1).0)

pub kept-first : (net : NetSystem) (still alive : List Bool) (i j : ℕ) → has (kept net still alive) i ≡ true → j < i → has alive j ≡ true → are_equal net still j i ≡ true → ⊥
unfolding kept
kept-first net still alive i j here below live equal =
    let parts = set_of-parts (size net) (λ i. has alive i && not (some_below i (λ j. has alive j && are_equal net still j i))) i here in
    let none = (and_parts (has alive i) (not (some_below i (λ j. has alive j && are_equal net still j i))) parts.1).1 in
    false≢true (sym (not-true (some_below i (λ j. has alive j && are_equal net still j i)) none)
    ∙ some-from i (λ k. has alive k && are_equal net still k i) j below (and_from (has alive j) (are_equal net still j i) live equal))

pub kept-not : (net : NetSystem) (still alive : List Bool) (i j : ℕ) → j < i → has alive j ≡ true → are_equal net still j i ≡ true → has (kept net still alive) i ≡ false
kept-not net still alive i j below live equal = false_from_ne_true (has (kept net still alive) i) (λ here. kept-first net still alive i j here below live equal)

pub kept-off : (net : NetSystem) (still alive : List Bool) (i : ℕ) → has alive i ≡ false → has (kept net still alive) i ≡ false
kept-off net still alive i off = false_from_ne_true (has (kept net still alive) i) (λ here. false≢true (sym off ∙ (kept-live net still alive i here).1))

pub kept-from : (net : NetSystem) (still alive : List Bool) (i : ℕ) → i < size net → has alive i ≡ true → some_below i (λ j. has alive j && are_equal net still j i) ≡ false → has (kept net still alive) i ≡ true
unfolding kept
kept-from net still alive i inside here none =
    set_of-from (size net) (λ i. has alive i && not (some_below i (λ j. has alive j && are_equal net still j i))) i inside
    (and_from (has alive i) (not (some_below i (λ j. has alive j && are_equal net still j i))) here (not_from_false (some_below i (λ j. has alive j && are_equal net still j i)) none))

-- the kept instance that a live one is equal to
pub record IsKeptFor (net : NetSystem) (still alive : List Bool) (i j : ℕ) : Type 0 where
  pub low : j ≤ i
  pub is_kept : has (kept net still alive) j ≡ true
  pub agree : Agree net still j i

pub represented : (net : NetSystem) (still alive : List Bool) (bound i : ℕ) → i < bound → i < size net → has alive i ≡ true → (j : ℕ) × IsKeptFor net still alive i j
represented net still alive zero i below inside here = absurd (omega arith)
represented net still alive (suc bound) i below inside here = elim (cases_Bool (some_below i (λ j. has alive j && are_equal net still j i))) [
  | inl some ↦
      let earlier = some-at i (λ j. has alive j && are_equal net still j i) some in
      let j = earlier.0 in
      let low : j < i = earlier.1 in
      let parts = and_parts (has alive j) (are_equal net still j i) earlier.2 in
      let found = represented net still alive bound j (omega arith) (omega arith) parts.0 in
      (found.0, record { low = (let l = found.1.low in omega arith); is_kept = found.1.is_kept; agree = agree_both net still found.0 j i found.1.agree (agree_from net still j i parts.1) })
  | inr none ↦ (i, record { low = omega arith; is_kept = kept-from net still alive i inside here none; agree = agree_same net still i })
]
