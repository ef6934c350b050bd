-- Siphons (Murata 1989): places into which nothing is put without taking from them.
use Rattle.std.specs.Prelude.{◌≡◌, ◌<◌, ℕ, Bool, true, not, ◌&&◌, ◌||◌, nat_lt, List, slice_index}
use Rattle.wide_sums.specs.declared.rows.Cell.{Cell}
use Rattle.wide_sums.specs.Cells.{amount}
use Rattle.pt_net.specs.Systems.{NetSystem, instance_at, places, size, pre, post}
use Rattle.trap_siphon.specs.Sets.{has, set_of, each_below, some_below}
use Rattle.trap_siphon.specs.Stages.{last_stage}

-- a row has some of the places of a set
unfoldable pub touches : NetSystem → List Bool → List Cell → Bool
touches net set row = some_below (places net) (λ p. has set p && nat_lt 0 (amount p row))

-- where the instance takes from the set, it puts into it
abbrev pub keeps_trap : NetSystem → List Bool → ℕ → Bool
keeps_trap net set i = not (touches net set (instance_at net i).pre) || touches net set (instance_at net i).post

-- where the instance puts into the set, it takes from it
abbrev pub keeps_siphon : NetSystem → List Bool → ℕ → Bool
keeps_siphon net set i = not (touches net set (instance_at net i).post) || touches net set (instance_at net i).pre

-- every instance that puts into the set takes from it
unfoldable pub is_siphon : NetSystem → List Bool → Bool
is_siphon net set = each_below (size net) (keeps_siphon net set)

-- the set takes from itself where an active instance puts into it, and it is empty
pub record IsEmptySiphon (net : NetSystem) (active : List Bool) (marking : List ℕ) (set : List Bool) : Type 0 where
  pub empty : (p : ℕ) → p < places net → has set p ≡ true → slice_index marking p ≡ 0
  pub takes : (i p : ℕ) → i < size net → has active i ≡ true → p < places net → has set p ≡ true → 0 < post net i p
      → (q : ℕ) × (q < places net) × (has set q ≡ true) × (0 < pre net i q)

-- the places that a set hasn't
unfoldable pub outside : NetSystem → List Bool → List Bool
outside net set = set_of (places net) (λ p. not (has set p))

-- what is outside the last stage is the largest empty siphon
pub record OutsideIsLargest (net : NetSystem) (active : List Bool) (marking : List ℕ) : Type 0 where
  pub siphon : IsEmptySiphon net active marking (outside net (last_stage net active marking))
  pub largest : (set : List Bool) (p : ℕ) → IsEmptySiphon net active marking set → p < places net → has set p ≡ true → has (outside net (last_stage net active marking)) p ≡ true
