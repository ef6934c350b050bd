-- The modes of a typed net stand for a coloured net: the same places, transitions and arcs, with what is compiled in the place of what is
-- meant.
use Rattle.std.specs.Prelude.{◌≡◌, ℕ, ◌+◌, ◌^◌, ◌<◌, ◌≤◌, nat_eq, List, length, filter, slice_get, sum_by, AllPairs, Some, if◌then◌else◌}
use Rattle.wide_sums.specs.Cells.{IsRow, amount}
use Rattle.bindings.specs.Listed.{IsBinding}
use Rattle.colour_sorts.specs.Colours as colours
use Rattle.multiset_terms.specs.Rows.{AreBelow}
use Rattle.multiset_terms.specs.Standing.{CanBeEvaluated}
use Rattle.multiset_terms.specs.Trees.{reading}
use Rattle.multiset_terms.specs.Usable.{IsUsable}
use Rattle.pt_net.specs.declared.instances.Side.{Side}
use Rattle.pt_net.specs.declared.instances.Side.TheVariants.{Pre, Post}
use Rattle.net_firing.specs.Coloured.{ColouredArc, ColouredNet, ColouredPlace, ColouredTransition}
use Rattle.net_firing.specs.Firing.{is_side}
use Rattle.net_firing.specs.Laws.{start_of}
use Rattle.net_firing.specs.Markings.{place_at}
use Rattle.net_firing.specs.Unfolding.{candidates}
use Rattle.guard_walks.specs.declared.walks.Signature.{Signature}
use Rattle.guard_walks.specs.Walks.{HasTruth, IsWalk, all_sizes, values_at}
use Rattle.net_modes.specs.declared.modes.NetModes.{NetModes}
use Rattle.net_modes.specs.declared.modes.TypedArc.{TypedArc}
use Rattle.net_modes.specs.declared.modes.TypedPlace.{TypedPlace}
use Rattle.net_modes.specs.declared.modes.TypedTransition.{TypedTransition}

-- a place with as many colours, and each as often at the start
pub record IsPlaceOf (s : Signature) (p : ColouredPlace) (m : TypedPlace) : Type 0 where
  pub size : p.size ≡ m.size
  pub sort : colours.size s.domains.constants m.sort ≡ m.size
  pub row : IsRow m.initial
  pub initial : (k : ℕ) → k < p.size → amount k m.initial ≡ p.initial k
  pub below : AreBelow m.size m.initial

-- an arc with the same number and place, and an inscription over as many colours. Under colour indices of all declared variables the
-- inscription has the value that the arc has under those of the transition's variables
pub record IsArcOf (net : ColouredNet) (s : Signature) (variables : List ℕ) (a : ColouredArc) (m : TypedArc) : Type 0 where
  pub number : a.number ≡ m.arc
  pub place : a.place ≡ m.place
  pub there : m.place < length net.places
  pub sized : colours.size s.domains.constants m.term.sort ≡ (place_at net.places m.place).size
  pub evaluated : (indices : List ℕ) → IsBinding (all_sizes s) indices → CanBeEvaluated m.term indices
  pub defined : (indices : List ℕ) → IsBinding (all_sizes s) indices → (reading indices m.term.tree).is_defined ≡ (a.value (values_at indices variables)).is_defined
  pub counts : (indices : List ℕ) (k : ℕ) → IsBinding (all_sizes s) indices → k < (place_at net.places m.place).size
      → (reading indices m.term.tree).count k ≡ (a.value (values_at indices variables)).count k

-- the arcs of a side, in the order of the net
abbrev pub arcs_at : Side → ColouredTransition → List ColouredArc
arcs_at side t = filter (λ a. is_side side a.side) t.arcs

-- how many elements the inscriptions at a place stand for together
abbrev pub weight_at : ℕ → List TypedArc → ℕ
weight_at place arcs = sum_by (λ m. if nat_eq m.place place then m.term.gross else 0) arcs

pub record AreArcsOf (net : ColouredNet) (s : Signature) (variables : List ℕ) (arcs : List ColouredArc) (ms : List TypedArc) : Type 0 where
  pub many : length ms ≡ length arcs
  pub each : (at : ℕ) (a : ColouredArc) (m : TypedArc) → slice_get arcs at ≡ Some a → slice_get ms at ≡ Some m → IsArcOf net s variables a m
  pub light : (place : ℕ) → weight_at place ms < 2 ^ 63

-- a transition whose guard has the same truth, and whose arcs are the same ones
pub record IsTransitionOf (net : ColouredNet) (s : Signature) (t : ColouredTransition) (m : TypedTransition) : Type 0 where
  pub walk : IsWalk s m.walk
  pub sizes : t.sizes ≡ m.walk.sizes
  pub guard : HasTruth s m.walk t.guard
  pub inputs : AreArcsOf net s m.walk.variables (arcs_at Pre t) m.inputs
  pub outputs : AreArcsOf net s m.walk.variables (arcs_at Post t) m.outputs
  pub rising : AllPairs (λ a b. a.number < b.number) t.arcs

-- the modes of a net within the limits: at most 2^20 place instances and 2^22 candidate bindings
pub record AreModesOf (net : ColouredNet) (s : Signature) (m : NetModes) : Type 0 where
  pub usable : IsUsable s.domains s.variables
  pub places : length m.places ≡ length net.places
  pub each_place : (at : ℕ) (p : ColouredPlace) (q : TypedPlace) → slice_get net.places at ≡ Some p → slice_get m.places at ≡ Some q → IsPlaceOf s p q
  pub starts : length m.starts ≡ length net.places + 1
  pub each_start : (at : ℕ) (start : ℕ) → slice_get m.starts at ≡ Some start → start ≡ start_of net at
  pub transitions : length m.transitions ≡ length net.transitions
  pub each_transition : (at : ℕ) (t : ColouredTransition) (u : TypedTransition) → slice_get net.transitions at ≡ Some t → slice_get m.transitions at ≡ Some u
      → IsTransitionOf net s t u
  pub few_transitions : length net.transitions < 2 ^ 32
  pub few_places : start_of net (length net.places) ≤ 2 ^ 20
  pub few_candidates : length (candidates net) ≤ 2 ^ 22
