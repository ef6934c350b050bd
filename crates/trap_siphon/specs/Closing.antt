-- What is true while a closure is made: places are added one after another, each one's entries are spent once, and each instance
-- counts its entries that aren't spent.
use Rattle.std.specs.Prelude.{◌≡◌, ◌≢◌, ◌<◌, ℕ, zero, suc, ◌+◌, Bool, true, false, cond, not, ◌&&◌, ◌||◌, ◌⊎◌, nat_eq, nat_lt, List, [], ◌∷◌, ◌++◌, length, All, AllPairs, slice_index}
use Rattle.std.specs.List.{list_any}
use Rattle.pt_net.specs.Systems.{NetSystem, instance_at, places, size, post}
use Rattle.pt_net.specs.declared.packed.Entry.{Entry}
use Rattle.pt_net.specs.Packing.{entry_at}
use Rattle.trap_siphon.specs.Sets.{has}
use Rattle.trap_siphon.specs.Stages.{last_stage}

-- how many numbers below `n` pass
abbrev pub count_below : ℕ → (ℕ → Bool) → ℕ
count_below zero test = 0
count_below (suc n) test = cond (test n) 1 0 + count_below n test

-- how many numbers are in a set
abbrev pub count : List Bool → ℕ
count [] = 0
count (true ∷ xs) = suc (count xs)
count (false ∷ xs) = count xs

abbrev pub is_in : List ℕ → ℕ → Bool
is_in xs p = list_any (nat_eq p) xs

-- the entries at these places are spent, and those at the place `p` before the one of number `to`
abbrev pub spent : List Entry → List ℕ → ℕ → Bool
spent entries done k = is_in done (entry_at entries k).place

abbrev pub spent_to : List Entry → List ℕ → ℕ → ℕ → ℕ → Bool
spent_to entries done p to k = spent entries done k || (nat_eq (entry_at entries k).place p && nat_lt k to)

-- how many entries of the instance aren't spent, and how many of all
unfoldable pub waiting : List Entry → (ℕ → Bool) → ℕ → ℕ
waiting entries spent i = count_below (length entries) (λ k. nat_eq (entry_at entries k).instance i && not (spent k))

unfoldable pub left : List Entry → (ℕ → Bool) → ℕ
left entries spent = count_below (length entries) (λ k. not (spent k))

-- the list has the places of the set, each once
pub record IsListed (set : List Bool) (order : List ℕ) : Type 0 where
  pub as_many : length order ≡ count set
  pub in_set : All (λ p. has set p ≡ true) order
  pub in_order : (p : ℕ) → has set p ≡ true → is_in order p ≡ true
  pub apart : AllPairs (λ a b. a ≢ b) order

abbrev pub IsExtended : List ℕ → List ℕ → Type 0
IsExtended old new = (more : List ℕ) × (new ≡ old ++ more)

-- the places of this kind were added
pub record Adds (added : ℕ → Type 0) (old new : List Bool) (before after : List ℕ) : Type 0 where
  pub as_long : length new ≡ length old
  pub keeps : (p : ℕ) → has old p ≡ true → has new p ≡ true
  pub only : (p : ℕ) → has new p ≡ true → (has old p ≡ true) ⊎ added p
  pub all : (p : ℕ) → added p → has new p ≡ true
  pub listed : IsListed new after
  pub more : IsExtended before after

-- the invariant: the instances below `upto` had their outputs added where nothing is missing
pub record IsClosing (net : NetSystem) (entries : List Entry) (active : List Bool) (marking : List ℕ) (upto : ℕ) (spent : ℕ → Bool) (set : List Bool) (order missing : List ℕ) : Type 0 where
  pub set_long : length set ≡ places net
  pub missing_long : length missing ≡ size net
  pub listed : IsListed set order
  pub marked : (p : ℕ) → 0 < slice_index marking p → has set p ≡ true
  pub sound : (p : ℕ) → has set p ≡ true → has (last_stage net active marking) p ≡ true
  pub waits : (i : ℕ) → i < size net → slice_index missing i ≡ waiting entries spent i
  pub served : (i p : ℕ) → i < upto → has active i ≡ true → slice_index missing i ≡ 0 → 0 < post net i p → has set p ≡ true

-- per instance, how many input entries it has
pub record HasInputCounts (net : NetSystem) (missing : List ℕ) : Type 0 where
  pub as_long : length missing ≡ size net
  pub each : (i : ℕ) → i < size net → slice_index missing i ≡ length (instance_at net i).pre
