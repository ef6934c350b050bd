-- What is true while the rounds are gone through.
use Rattle.std.specs.Prelude.{◌≡◌, ℕ, suc, List, Bool, length}
use Rattle.pt_net.specs.Systems.{NetSystem, places, size}
use Rattle.reductions.specs.Rounds.{undead, constant, live, active, rounds}
use Rattle.reductions.specs.Reduced.{last_active}
use Rattle.reductions.specs.Merging.{alive, alive_after}

-- the sets of a round have as many numbers as the net has places or instances
pub record AreAsLong (net : NetSystem) (on still lives undying : List Bool) : Type 0 where
  pub active_long : length on ≡ size net
  pub constant_long : length still ≡ places net
  pub live_long : length lives ≡ size net
  pub alive_long : length undying ≡ size net

-- what the round over the instances `on` finds, behind rounds in which those `before` weren't dead
pub record Finds (net : NetSystem) (on before : List Bool) (on' still lives undying : List Bool) : Type 0 where
  pub same : on' ≡ on
  pub found_constant : still ≡ constant net on
  pub found_live : lives ≡ live net on
  pub found_alive : undying ≡ alive_after net before on (undead net on)

-- what round `k + 1` finds
pub record IsRound (net : NetSystem) (k : ℕ) (on still lives undying : List Bool) : Type 0 where
  pub is_active : on ≡ active net k
  pub is_constant : still ≡ constant net on
  pub is_live : lives ≡ live net on
  pub is_alive : undying ≡ alive net (suc k)

-- what the last round finds
pub record IsLastRound (net : NetSystem) (on still lives undying : List Bool) : Type 0 where
  pub is_last : on ≡ last_active net
  pub last_constant : still ≡ constant net on
  pub last_live : lives ≡ live net on
  pub last_alive : undying ≡ alive net (rounds net)
