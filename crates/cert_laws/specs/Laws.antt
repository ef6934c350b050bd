-- What the reduced net, as plain data, tells of the net.
use Rattle.std.specs.Prelude.{◌≡◌, ◌↔◌, ◌⊎◌, ◌<◌, ◌||◌, ℕ, true, List, slice_index, Contains}
use Rattle.tree_visits.specs.Forests.{are_trees}
use Rattle.pt_net.specs.Firing.{IsEnabled}
use Rattle.pt_net.specs.Systems.{NetSystem, instance_at, PtReach, size}
use Rattle.trap_siphon.specs.Sets.{has}
use Rattle.reductions.specs.declared.Fate.TheVariants.{Dead, Blocked, Kept, Merged}
use Rattle.reductions.specs.Reduced.{reduced, is_dead, is_blocked, fate, without_constants}
use Rattle.reductions.specs.Slots.{last_constant}
use Rattle.cert_model.specs.Nets.{Reach}
use Rattle.cert_model.specs.Formulas.{Formula, Fireable, fits, truth}
use Rattle.cert_model.specs.Trees.{Node, branches_of}
use Rattle.cert_model.specs.Judging.{Stated, Shown, section_judgement}
use Rattle.cert_laws.specs.PlainNets.{plain, plain_live, last_live, reduced_live, plain_reduced, kept_counts}
use Rattle.cert_laws.specs.Reducing.{reduced_formula}

-- an instance of one of these transitions is enabled
pub record SomeIsEnabled (net : NetSystem) (marking transitions : List ℕ) : Type 0 where
  pub instance : ℕ
  pub there : instance < size net
  pub listed : Contains transitions (instance_at net instance).transition
  pub enabled : IsEnabled marking (instance_at net instance)

-- a net as plain data has the inputs, the fireable transitions and the reached markings of the net
pub record PlainNetsMeanTheSame (net : NetSystem) : Type 0 where
  pub inputs : (marking : List ℕ) (i : ℕ) → i < size net → IsEnabled marking (instance_at net i) ↔ (fits (plain_live net i).needs (slice_index marking) ≡ true)
  pub fireable : (marking transitions : List ℕ) → (truth (plain net) (slice_index marking) (Fireable transitions) ≡ true) ↔ SomeIsEnabled net marking transitions
  pub reached : (marking : List ℕ) → PtReach net marking → Reach (plain net) (slice_index marking)

-- when instances are enabled at reached markings
pub record FiringIsReduced (net : NetSystem) : Type 0 where
  -- one that is dead or blocked in any round never is
  pub off : (marking : List ℕ) (i k : ℕ) → PtReach net marking → i < size net → (is_dead net i k || is_blocked net i k) ≡ true → IsEnabled marking (instance_at net i) → ⊥
  -- one that is live in the last round is exactly where its inputs fit on the reduced places
  pub exact : (marking : List ℕ) (i : ℕ) → PtReach net marking → has (last_live net) i ≡ true
      → IsEnabled marking (instance_at net i) ↔ (fits (reduced_live net i).needs (kept_counts net marking) ≡ true)
  -- and no other one is
  pub only : (marking : List ℕ) (i : ℕ) → PtReach net marking → i < size net → IsEnabled marking (instance_at net i) → has (last_live net) i ≡ true

-- so it is by what became of an instance: a dead or blocked one never is, and any other one is exactly where its number's is in the
-- reduced net
pub record FatesTellFiring (net : NetSystem) : Type 0 where
  pub off : (marking : List ℕ) (i : ℕ) → PtReach net marking → i < size net → (fate net i ≡ Dead) ⊎ (fate net i ≡ Blocked) → IsEnabled marking (instance_at net i) → ⊥
  pub on : (marking : List ℕ) (i number : ℕ) → PtReach net marking → i < size net → (fate net i ≡ Kept number) ⊎ (fate net i ≡ Merged number)
      → IsEnabled marking (instance_at net i) ↔ IsEnabled (without_constants net (last_constant net) marking) (instance_at (reduced net) number)

-- a formula has the same truth at a reached marking and on its reduced places
abbrev pub FormulasAreReduced : NetSystem → Type 0
FormulasAreReduced net = (marking : List ℕ) (f : Formula) → PtReach net marking
    → truth (plain net) (slice_index marking) f ≡ truth (plain_reduced net) (kept_counts net marking) (reduced_formula net f)

-- a shown section is sound
abbrev pub ShownHoldsAtReached : NetSystem → Type 0
ShownHoldsAtReached net = (stated : List Stated) (invariant : Formula) (tree : List Node) → are_trees branches_of 1 tree ≡ true
    → section_judgement (plain_reduced net) stated (record { invariant = reduced_formula net invariant; tree = tree }) ≡ Shown
    → (marking : List ℕ) → PtReach net marking → truth (plain net) (slice_index marking) invariant ≡ true
