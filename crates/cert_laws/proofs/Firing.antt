-- When instances are enabled at reached markings, told by the reduced places.
use Rattle.std.proofs.Common.{◌≡◌, ℕ, suc, ◌-◌, ◌<◌, ◌≤◌, true, not, List, length, arith, subst, slice_index}
use Rattle.std.specs.Prelude.{◌↔◌}
use Rattle.std.proofs.lemmas.Bool.{not_from_false}
use Rattle.std.proofs.lemmas.List.{get_or-map}
use Rattle.pt_net.specs.Firing.{IsEnabled}
use Rattle.pt_net.specs.Systems.{NetSystem, IsSystem, instance_at, PtReach, places, size, pre}
use Rattle.trap_siphon.specs.Sets.{has}
use Rattle.reductions.specs.Numbers.{rank}
use Rattle.reductions.specs.Rounds.{active, rounds}
use Rattle.reductions.specs.Reduced.{reduced, kept, without_constants}
use Rattle.reductions.specs.Slots.{last_constant}
use Rattle.reductions.proofs.Numbers.{stands_at}
use Rattle.reductions.proofs.Runs.{enabled_active}
use Rattle.reductions.proofs.Reduces.{reduced_places}
use Rattle.reductions.proofs.Enabling.{never_off, live_enabled}
use Rattle.cert_model.specs.Formulas.{fits}
use Rattle.cert_laws.specs.PlainNets.{kept_places, kept_place, kept_counts, last_live, reduced_live}
use Rattle.cert_laws.specs.Laws.{FiringIsReduced}
use Rattle.cert_laws.proofs.Inputs.{fits-at, fits-from}

-- the reduced net has the places that are kept
pub as_many : (net : NetSystem) → places (reduced net) ≡ length (kept_places net)
as_many net = reduced_places net (last_constant net) (kept net (last_constant net) (last_live net))

-- and a marking has its counts there
pub kept-count : (net : NetSystem) (marking : List ℕ) (q : ℕ) → q < places (reduced net) → kept_counts net marking q ≡ slice_index marking (kept_place net q)
unfolding without_constants
kept-count net marking q low = let many = as_many net in get_or-map (slice_index marking) (kept_places net) q 0 0 (omega arith)

pub live-exact : (net : NetSystem) → IsSystem net → (marking : List ℕ) (i : ℕ) → PtReach net marking → has (last_live net) i ≡ true
    → IsEnabled marking (instance_at net i) ↔ (fits (reduced_live net i).needs (kept_counts net marking) ≡ true)
live-exact net is_system marking i reach alive =
    let exact = live_enabled net is_system marking i reach alive in
    let many = as_many net in (
      λ enabled. fits-from (places (reduced net)) (λ q. pre net i (kept_place net q)) (kept_counts net marking) (λ q low.
          let count = kept-count net marking q low in
          let here = enabled (kept_place net q) in
          omega arith),
      λ fit. exact.1 (λ p low moves.
          let at = stands_at (places net) (λ r. not (has (last_constant net) r)) p low (not_from_false (has (last_constant net) p) moves) in
          let q = rank (λ r. not (has (last_constant net) r)) p in
          let inside : q < places (reduced net) = (let w = at.within in omega arith) in
          let count = kept-count net marking q inside in
          let enough = fits-at (places (reduced net)) (λ r. pre net i (kept_place net r)) (kept_counts net marking) fit q inside in
          let here : kept_place net q ≡ p = at.is in
          subst (λ r. pre net i r ≤ slice_index marking r) here (omega arith)),
    )

pub enabled-live : (net : NetSystem) (marking : List ℕ) (i : ℕ) → PtReach net marking → i < size net → IsEnabled marking (instance_at net i) → has (last_live net) i ≡ true
unfolding active
enabled-live net marking i reach inside enabled = enabled_active net (suc (rounds net - 1)) marking i reach inside enabled

pub firing_is_reduced : (net : NetSystem) → IsSystem net → FiringIsReduced net
firing_is_reduced net is_system = record {
  off = never_off net;
  exact = live-exact net is_system;
  only = enabled-live net;
}
