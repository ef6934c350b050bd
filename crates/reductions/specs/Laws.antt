-- What the reduction keeps.
use Rattle.std.specs.Prelude.{◌≡◌, ◌↔◌, ◌<◌, ◌≤◌, ◌||◌, ℕ, Bool, true, false, List, length, slice_index}
use Rattle.pt_net.specs.Firing.{IsEnabled}
use Rattle.pt_net.specs.Systems.{NetSystem, IsSystem, instance_at, PtReach, places, size, pre}
use Rattle.trap_siphon.specs.Sets.{has}
use Rattle.reductions.specs.Rounds.{constant, live, active}
use Rattle.reductions.specs.Reduced.{reduced, last_active, is_dead, is_blocked, with_constants, without_constants}

-- an instance that is enabled at a reached marking is live after each number of rounds: neither dead nor blocked in any of them
abbrev pub EnabledAreLive : NetSystem → Type 0
EnabledAreLive net = (marking : List ℕ) (i k : ℕ) → PtReach net marking → i < size net → IsEnabled marking (instance_at net i) → has (active net k) i ≡ true

-- in other words: where an instance is dead or blocked in some round, it is enabled at no reached marking
abbrev pub DeadAndBlockedAreOff : NetSystem → Type 0
DeadAndBlockedAreOff net = (marking : List ℕ) (i k : ℕ) → PtReach net marking → i < size net → (is_dead net i k || is_blocked net i k) ≡ true → IsEnabled marking (instance_at net i) → ⊥

-- at a reached marking a live instance is enabled exactly where it fits on the places that aren't constant
abbrev pub LiveAreEnabled : NetSystem → Type 0
LiveAreEnabled net = (marking : List ℕ) (i : ℕ) → PtReach net marking → has (live net (last_active net)) i ≡ true
    → IsEnabled marking (instance_at net i) ↔ ((p : ℕ) → p < places net → has (constant net (last_active net)) p ≡ false → pre net i p ≤ slice_index marking p)

-- a marking has the initial count on each constant place
pub record KeepsConstants (net : NetSystem) (constant : List Bool) (marking : List ℕ) : Type 0 where
  pub as_long : length marking ≡ places net
  pub same : (p : ℕ) → has constant p ≡ true → slice_index marking p ≡ slice_index net.initial p

-- a marking is reached exactly where it keeps the constant places and is reached without them in the reduced net
abbrev pub ReachIsReduced : NetSystem → Type 0
ReachIsReduced net = (marking : List ℕ) → PtReach net marking
    ↔ (KeepsConstants net (constant net (last_active net)) marking × PtReach (reduced net) (without_constants net (constant net (last_active net)) marking))

-- the reduced net is a net
abbrev pub ReducedIsSystem : NetSystem → Type 0
ReducedIsSystem net = IsSystem (reduced net)

-- leaving the constant places out undoes putting them back
abbrev pub LiftedIsProjected : NetSystem → Type 0
LiftedIsProjected net = (counts : List ℕ) → length counts ≡ places (reduced net) → without_constants net (constant net (last_active net)) (with_constants net (constant net (last_active net)) counts) ≡ counts

-- putting them back undoes leaving them out, where a marking keeps them
abbrev pub ProjectedIsLifted : NetSystem → Type 0
ProjectedIsLifted net = (marking : List ℕ) → KeepsConstants net (constant net (last_active net)) marking
    → with_constants net (constant net (last_active net)) (without_constants net (constant net (last_active net)) marking) ≡ marking
