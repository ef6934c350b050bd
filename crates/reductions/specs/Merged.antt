-- The invariant while instances are taken one after another.
use Rattle.std.specs.Prelude.{◌≡◌, ◌<◌, ℕ, Bool, true, List, map, Some}
use Rattle.std.specs.List.{range_with_len}
use Rattle.pt_net.specs.declared.instances.Instance.{Instance}
use Rattle.pt_net.specs.Systems.{NetSystem}
use Rattle.trap_siphon.specs.Sets.{has}
use Rattle.reductions.specs.declared.Fate.{Fate}
use Rattle.reductions.specs.Numbers.{numbers, rank}
use Rattle.reductions.specs.Reduced.{fate_among, kept}
use Rattle.reductions.specs.Merging.{Keys, HasRows, key_at, number_of, on_stays}

-- a kept instance of this key stands before the `k`th
pub record IsKeptUnder (net : NetSystem) (constant live : List Bool) (k : ℕ) (key : List ℕ) (j : ℕ) : Type 0 where
  pub before : j < k
  pub is_kept : has (kept net constant live) j ≡ true
  pub has_key : key_at net constant j ≡ key

-- the first `k` instances have their fates, the kept ones among them are listed, and each one's key has its number
pub record IsMerging (net : NetSystem) (constant live : List Bool) (k : ℕ) (keys : Keys) (fates : List Fate) (listed : List Instance) : Type 0 where
  pub told : fates ≡ map (fate_among net constant live (kept net constant live)) (range_with_len 0 k)
  pub listing : listed ≡ map (on_stays net constant) (numbers k (has (kept net constant live)))
  pub found : (j : ℕ) → j < k → has (kept net constant live) j ≡ true → number_of keys (key_at net constant j) ≡ Some (rank (has (kept net constant live)) j)
  pub only : (key : List ℕ) (number : ℕ) → number_of keys key ≡ Some number → (j : ℕ) × IsKeptUnder net constant live k key j
  pub rows : (j : ℕ) → j < k → has live j ≡ true → HasRows net j
