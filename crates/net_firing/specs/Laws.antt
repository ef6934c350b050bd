-- Laws of coloured firing and of the unfolded net.
use Rattle.std.specs.Prelude.{◌≡◌, ℕ, ◌+◌, ◌^◌, ◌<◌, List, [], ◌∷◌, length, take, sum_by, slice_get, slice_index, All, AllPairs, Some, Ok}
use Rattle.wide_sums.specs.declared.rows.Cell.{Cell}
use Rattle.wide_sums.specs.Cells.{IsRow, amount}
use Rattle.pt_net.specs.Firing as place_transition
use Rattle.pt_net.specs.Instances.{IsBefore, origin_of}
use Rattle.pt_net.specs.Markings.{IsInRange}
use Rattle.pt_net.specs.Systems as systems
use Rattle.pt_net.specs.Systems.{NetSystem, PtReach, instance_at}
use Rattle.bindings.specs.Listed.{bindings}
use Rattle.net_firing.specs.Coloured.{ColouredNet, ColouredTransition}
use Rattle.net_firing.specs.Firing.{FiresAt, IsMode, Mode, Reach, Run}
use Rattle.net_firing.specs.Markings.{HasColour, IsMarking, Marking, at_start, initial, pairs}
use Rattle.net_firing.specs.Unfolding.{Flat, counts, row_of, unfolding_of}

-- the number of the first instance of a place
abbrev pub start_of : ColouredNet → ℕ → ℕ
start_of net p = sum_by (λ place. place.size) (take p net.places)

-- lists of counts and markings stand for each other
pub record CountsAreMarkings (net : ColouredNet) : Type 0 where
  pub many : (m : Marking) → length (Flat net m) ≡ length (pairs net)
  pub one : (m n : Marking) → IsMarking net m → IsMarking net n → Flat net m ≡ Flat net n → m ≡ n
  pub some : (counts : List ℕ) → length counts ≡ length (pairs net) → (m : Marking) × (IsMarking net m × (Flat net m ≡ counts))
  pub numbered : (p k : ℕ) → HasColour net p k → slice_get (pairs net) (start_of net p + k) ≡ Some (p, k)
  pub starts : IsMarking net (initial net) × (Flat net (initial net) ≡ counts net (at_start net))

-- an instance of the unfolded net comes from a transition and one of its bindings
pub record ComesFrom (net : ColouredNet) (u : NetSystem) (i : ℕ) (mode : Mode) : Type 0 where
  pub there : i < length u.instances
  pub transition : (instance_at u i).transition ≡ mode.transition
  pub binding : (t : ColouredTransition) → slice_get net.transitions mode.transition ≡ Some t → slice_get (bindings t.sizes) (instance_at u i).binding ≡ Some mode.binding

abbrev pub ComeFrom : ColouredNet → NetSystem → List ℕ → List Mode → Type 0
ComeFrom net u [] [] = Unit {0}
ComeFrom net u (i ∷ is) (mode ∷ modes) = ComesFrom net u i mode × ComeFrom net u is modes
ComeFrom net u _ _ = ⊥

-- each mode of each transition has an instance, and only one; and each instance has a mode
pub record ModesAreNumbered (net : ColouredNet) (u : NetSystem) : Type 0 where
  pub some : (mode : Mode) (t : ColouredTransition) → slice_get net.transitions mode.transition ≡ Some t → IsMode t mode.binding → (i : ℕ) × ComesFrom net u i mode
  pub one : (i j : ℕ) (mode : Mode) (t : ColouredTransition) → slice_get net.transitions mode.transition ≡ Some t → ComesFrom net u i mode → ComesFrom net u j mode → i ≡ j
  pub origin : (i : ℕ) → i < length u.instances
      → (mode : Mode) × ((t : ColouredTransition) × ((slice_get net.transitions mode.transition ≡ Some t) × (IsMode t mode.binding × ComesFrom net u i mode)))
  pub rising : AllPairs (λ s t. IsBefore (origin_of s) (origin_of t)) u.instances

-- a transition fires with a binding exactly where it has an instance from it, and this fires
pub record FiringsCorrespond (net : ColouredNet) (u : NetSystem) : Type 0 where
  pub unfolded : (old new : Marking) (mode : Mode) → FiresAt net old mode new → IsMarking net new × ((i : ℕ) × (ComesFrom net u i mode × place_transition.Fires (Flat net old) (instance_at u i) (Flat net new)))
  pub coloured : (old new : Marking) (mode : Mode) (i : ℕ) → IsMarking net new → ComesFrom net u i mode → place_transition.Fires (Flat net old) (instance_at u i) (Flat net new) → FiresAt net old mode new

-- a list of transitions with bindings fires exactly where they have instances, and these fire one after another
pub record RunsCorrespond (net : ColouredNet) (u : NetSystem) : Type 0 where
  pub unfolded : (modes : List Mode) (old new : Marking) → IsMarking net old → Run net old modes new
      → IsMarking net new × ((is : List ℕ) × (ComeFrom net u is modes × systems.Run u (Flat net old) is (Flat net new)))
  pub coloured : (modes : List Mode) (is : List ℕ) (old new : Marking) → IsMarking net old → IsMarking net new → ComeFrom net u is modes
      → systems.Run u (Flat net old) is (Flat net new) → Run net old modes new

-- a marking is reached exactly where its counts are
pub record ReachesCorrespond (net : ColouredNet) (u : NetSystem) : Type 0 where
  pub unfolded : (m : Marking) → Reach net m → IsMarking net m × PtReach u (Flat net m)
  pub coloured : (m : Marking) → IsMarking net m → PtReach u (Flat net m) → Reach net m
  pub counts : (counts : List ℕ) → PtReach u counts → (m : Marking) × (Reach net m × (Flat net m ≡ counts))

-- a row is told by its amounts: it is the one that has these counts
pub record RowsAreTold : Type 0 where
  pub amounts : (counts : List ℕ) (p : ℕ) → amount p (row_of counts) ≡ slice_index counts p
  pub in_range : (counts : List ℕ) → IsInRange (length counts) (row_of counts)
  pub row : (counts : List ℕ) → All (λ n. n < 2 ^ 63) counts → IsRow (row_of counts)
  pub same : (counts : List ℕ) (cells : List Cell) → IsRow cells → ((p : ℕ) → amount p cells ≡ slice_index counts p) → cells ≡ row_of counts
