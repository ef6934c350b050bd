-- Nets that are made instance by instance, each with a transition of its own.
use Rattle.std.specs.Prelude.{◌≡◌, ◌<◌, ◌≤◌, ◌*◌, ◌^◌, ℕ, length, All, sum_by}
use Rattle.pt_net.specs.Markings.{IsInRange}
use Rattle.pt_net.specs.Systems.{NetSystem, instance_at, size}

-- the transitions are numbered in turn, the rows have two cells at most, and the counts and places are in range
pub record IsDraft (places : ℕ) (net : NetSystem) : Type 0 where
  pub as_many : places ≡ length net.initial
  pub counts : All (λ k. k < 2 ^ 63) net.initial
  pub few : length net.initial < 2 ^ 32
  pub in_turn : (i : ℕ) → i < size net → (instance_at net i).transition ≡ i
  pub pre_in_range : All (λ t. IsInRange (length net.initial) t.pre) net.instances
  pub post_in_range : All (λ t. IsInRange (length net.initial) t.post) net.instances
  pub inputs : sum_by (λ t. length t.pre) net.instances ≤ 2 * size net
  pub outputs : sum_by (λ t. length t.post) net.instances ≤ 2 * size net
