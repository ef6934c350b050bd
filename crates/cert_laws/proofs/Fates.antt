-- What became of an instance tells when it is enabled.
use Rattle.std.proofs.Common.{◌≡◌, ℕ, suc, ◌<◌, ◌≤◌, Bool, true, false, ◌&&◌, not, inl, inr, List, [], arith, refl, ap, subst, sym, ◌∙◌, slice_index}
use Rattle.std.specs.Prelude.{◌↔◌, ◌⊎◌}
use Rattle.std.proofs.lemmas.Bool.{and_parts, and_from, false≢true, not_from_false}
use Rattle.std.proofs.lemmas.List.{get_or-map}
use Rattle.wide_sums.specs.Cells.{amount}
use Rattle.pt_net.specs.declared.instances.Instance.{Instance}
use Rattle.pt_net.specs.Firing.{IsEnabled}
use Rattle.pt_net.specs.Systems.{NetSystem, IsSystem, instance_at, PtReach, places, size, pre}
use Rattle.trap_siphon.specs.Sets.{has, some_below}
use Rattle.reductions.specs.declared.Fate.{Fate}
use Rattle.reductions.specs.declared.Fate.TheVariants.{Dead, Blocked, Kept, Merged}
use Rattle.reductions.specs.Numbers.{numbers, rank, least}
use Rattle.reductions.specs.Rounds.{rounds}
use Rattle.reductions.specs.Reduced.{are_equal, kept, row_on, instance_on, reduced_by, reduced, without_constants, is_dead, fate_among, fate}
use Rattle.reductions.specs.Slots.{last_constant}
use Rattle.reductions.proofs.Numbers.{stands_at}
use Rattle.reductions.proofs.Rows.{amount-on, amount-past, count-at}
use Rattle.reductions.proofs.Kept.{Agree, agree_from, agree_same, agree_both, agree_back, equal_from, kept-live, kept-first, represented}
use Rattle.reductions.proofs.Joining.{least_at}
use Rattle.reductions.proofs.Enabling.{live_enabled}
use Rattle.reductions.proofs.Reduces.{each_on, rows_in_range}
use Rattle.cert_laws.specs.PlainNets.{last_live}
use Rattle.cert_laws.specs.Laws.{FatesTellFiring}
use Rattle.cert_laws.proofs.Firing.{enabled-live}

-- the fates by their tests
abbrev told : Bool → Bool → Bool → ℕ → ℕ → Fate
told keeps lives dies own other = elim keeps [ true ↦ Kept own | false ↦ elim lives [ true ↦ Merged other | false ↦ elim dies [ true ↦ Dead | false ↦ Blocked ] ] ]

abbrev last_kept : NetSystem → List Bool
last_kept net = kept net (last_constant net) (last_live net)

abbrev equals : NetSystem → ℕ → ℕ → Bool
equals net i j = has (last_live net) j && are_equal net (last_constant net) j i

abbrev told_of : NetSystem → ℕ → Fate
told_of net i =
    told (has (last_kept net) i) (has (last_live net) i) (some_below (rounds net) (is_dead net i)) (rank (has (last_kept net)) i) (rank (has (last_kept net)) (least (size net) (equals net i) 0))

fate-is : (net : NetSystem) (i : ℕ) → fate net i ≡ told_of net i
unfolding fate_among
fate-is net i = refl

off_live : (keeps lives dies : Bool) (own other : ℕ) → (told keeps lives dies own other ≡ Dead) ⊎ (told keeps lives dies own other ≡ Blocked) → lives ≡ false
off_live true lives dies own other (inl is) = absurd cc
off_live true lives dies own other (inr is) = absurd cc
off_live false true dies own other (inl is) = absurd cc
off_live false true dies own other (inr is) = absurd cc
off_live false false dies own other is = refl

-- the instance that stands for another one in the reduced net
record StandsFor (net : NetSystem) (i number : ℕ) : Type 0 where
  live : has (last_live net) i ≡ true
  one : ℕ
  is_kept : has (last_kept net) one ≡ true
  number_is : rank (has (last_kept net)) one ≡ number
  agree : Agree net (last_constant net) one i

own_number : (keeps lives dies : Bool) (own other number : ℕ) → told keeps lives dies own other ≡ Kept number → (keeps ≡ true) × (own ≡ number)
own_number true lives dies own other number is = (refl, injective own number is)
  where
    injective : (a b : ℕ) → Kept a ≡ Kept b → a ≡ b
    injective a b e = cc
own_number false true dies own other number is = absurd cc
own_number false false true own other number is = absurd cc
own_number false false false own other number is = absurd cc

other_number : (keeps lives dies : Bool) (own other number : ℕ) → told keeps lives dies own other ≡ Merged number → (lives ≡ true) × (other ≡ number)
other_number true lives dies own other number is = absurd cc
other_number false true dies own other number is = (refl, injective other number is)
  where
    injective : (a b : ℕ) → Merged a ≡ Merged b → a ≡ b
    injective a b e = cc
other_number false false true own other number is = absurd cc
other_number false false false own other number is = absurd cc

first_equal : (net : NetSystem) (i : ℕ) → i < size net → has (last_live net) i ≡ true → StandsFor net i (rank (has (last_kept net)) (least (size net) (equals net i) 0))
first_equal net i inside alive =
    let still = last_constant net in
    let lives = last_live net in
    let found = represented net still lives (suc i) i (omega arith) inside alive in
    let j = found.0 in
    let low = found.1.low in
    let here = kept-live net still lives j found.1.is_kept in
    let first : least (size net) (equals net i) 0 ≡ j =
    least_at (size net) 0 j (equals net i) (omega arith) (omega arith) (and_from (has lives j) (are_equal net still j i) here.1 (equal_from net still j i found.1.agree)) (λ k from below both.
    let parts = and_parts (has lives k) (are_equal net still k i) both in
    kept-first net still lives j k found.1.is_kept below parts.0
    (equal_from net still k j (agree_both net still k i j (agree_from net still k i parts.1) (agree_back net still j i found.1.agree)))) in
    record { live = alive; one = j; is_kept = found.1.is_kept; number_is = sym (ap (rank (has (last_kept net))) first); agree = found.1.agree }

stands_for : (net : NetSystem) (i number : ℕ) → i < size net → (fate net i ≡ Kept number) ⊎ (fate net i ≡ Merged number) → StandsFor net i number
stands_for net i number inside (inl is) =
    let own = own_number (has (last_kept net) i) (has (last_live net) i) (some_below (rounds net) (is_dead net i)) (rank (has (last_kept net)) i) (rank (has (last_kept net)) (least (size net) (equals net i) 0)) number
    (sym (fate-is net i) ∙ is) in
    record { live = (kept-live net (last_constant net) (last_live net) i own.0).1; one = i; is_kept = own.0; number_is = own.1; agree = agree_same net (last_constant net) i }
stands_for net i number inside (inr is) =
    let other = other_number (has (last_kept net) i) (has (last_live net) i) (some_below (rounds net) (is_dead net i)) (rank (has (last_kept net)) i) (rank (has (last_kept net)) (least (size net) (equals net i) 0)) number
    (sym (fate-is net i) ∙ is) in
    subst (StandsFor net i) other.1 (first_equal net i inside other.0)

-- a kept instance in the reduced net
abbrev on : NetSystem → ℕ → Instance
on net i = instance_on (λ p. not (has (last_constant net) p)) (instance_at net i)

kept-at : (net : NetSystem) (i : ℕ) → i < size net → has (last_kept net) i ≡ true → instance_at (reduced net) (rank (has (last_kept net)) i) ≡ on net i
unfolding reduced_by
kept-at net i inside is =
    let at = stands_at (size net) (has (last_kept net)) i inside is in
    get_or-map (on net) (numbers (size net) (has (last_kept net))) (rank (has (last_kept net)) i) 0 (record { transition = 0; binding = 0; pre = []; post = [] }) at.within ∙ ap (on net) at.is

without-at : (net : NetSystem) (marking : List ℕ) (p : ℕ) → p < places net → has (last_constant net) p ≡ false
    → slice_index (without_constants net (last_constant net) marking) (rank (λ q. not (has (last_constant net) q)) p) ≡ slice_index marking p
unfolding without_constants
without-at net marking p low moves = count-at net (λ q. not (has (last_constant net) q)) marking p low (not_from_false (has (last_constant net) p) moves)

-- it is enabled exactly where its inputs on the places that stay are there
on-enabled : (net : NetSystem) (marking : List ℕ) (j : ℕ) → IsSystem net → j < size net
    → ((p : ℕ) → p < places net → has (last_constant net) p ≡ false → pre net j p ≤ slice_index marking p) ↔ IsEnabled (without_constants net (last_constant net) marking) (on net j)
on-enabled net marking j is_system inside =
    let range = rows_in_range net j is_system inside in
    let stays : ℕ → Bool = λ p. not (has (last_constant net) p) in (
      λ each. each_on net (last_constant net) (λ q. amount q (row_on stays (instance_at net j).pre) ≤ slice_index (without_constants net (last_constant net) marking) q)
          (λ p low moves.
          let takes = amount-on (places net) stays p (instance_at net j).pre low (not_from_false (has (last_constant net) p) moves) range.pre in
          let has_it = without-at net marking p low moves in
          let enough = each p low moves in
          omega arith)
          (λ q past. let nothing = amount-past (places net) stays q (instance_at net j).pre past range.pre in omega arith),
      λ enabled p low moves.
          let takes = amount-on (places net) stays p (instance_at net j).pre low (not_from_false (has (last_constant net) p) moves) range.pre in
          let has_it = without-at net marking p low moves in
          let enough = enabled (rank stays p) in
          omega arith,
    )

told_on : (net : NetSystem) → IsSystem net → (marking : List ℕ) (i number : ℕ) → PtReach net marking → i < size net → StandsFor net i number
    → IsEnabled marking (instance_at net i) ↔ IsEnabled (without_constants net (last_constant net) marking) (instance_at (reduced net) number)
told_on net is_system marking i number reach inside stands =
    let j = stands.one in
    let low : j < size net = (kept-live net (last_constant net) (last_live net) j stands.is_kept).0 in
    let exact = live_enabled net is_system marking i reach stands.live in
    let there = on-enabled net marking j is_system low in
    let is : instance_at (reduced net) number ≡ on net j = ap (instance_at (reduced net)) (sym stands.number_is) ∙ kept-at net j low stands.is_kept in (
      λ enabled. subst (IsEnabled (without_constants net (last_constant net) marking)) (sym is)
          (there.0 (λ p below moves. let same = stands.agree.pre p below moves in let enough = exact.0 enabled p below moves in omega arith)),
      λ enabled. exact.1 (λ p below moves.
          let same = stands.agree.pre p below moves in
          let enough = there.1 (subst (IsEnabled (without_constants net (last_constant net) marking)) is enabled) p below moves in
          omega arith),
    )

pub fates_tell_firing : (net : NetSystem) → IsSystem net → FatesTellFiring net
fates_tell_firing net is_system = record {
  off = λ marking i reach inside is enabled.
      let gone = off_live (has (last_kept net) i) (has (last_live net) i) (some_below (rounds net) (is_dead net i)) (rank (has (last_kept net)) i) (rank (has (last_kept net)) (least (size net) (equals net i) 0))
      (subst (λ f. (f ≡ Dead) ⊎ (f ≡ Blocked)) (fate-is net i) is) in
      false≢true (sym gone ∙ enabled-live net marking i reach inside enabled);
  on = λ marking i number reach inside is. told_on net is_system marking i number reach inside (stands_for net i number inside is);
}
