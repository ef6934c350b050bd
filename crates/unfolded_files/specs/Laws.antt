-- What the net of a file means that stands for an unfolded net.
use Rattle.std.specs.Prelude.{◌≡◌, ℕ, ◌+◌, false, List, [], ◌∷◌, All, length, Ok}
use Rattle.std.specs.List.{IsDistinct}
use Rattle.std.specs.Str.{bytes_eq}
use Rattle.wide_sums.specs.Cells.{IsRow}
use Rattle.pt_net.specs.declared.instances.Instance.{Instance}
use Rattle.pt_net.specs.Markings.{IsInRange}
use Rattle.pt_net.specs.Systems.{NetSystem, PtReach}
use Rattle.net_firing.specs.Coloured.{ColouredNet}
use Rattle.net_firing.specs.FileNets.{coloured_net}
use Rattle.net_firing.specs.Firing.{Reach}
use Rattle.net_firing.specs.Markings.{IsMarking, Marking}
use Rattle.net_firing.specs.Unfolding.{Flat, unfolding_of}
use Rattle.unfolded_files.specs.Files.{file_net}

-- there is an id for each place and for each instance, and all of them differ
pub record AreNamed (places transitions : List (List ℕ)) (u : NetSystem) : Type 0 where
  pub each_place : length places ≡ length u.initial
  pub each_transition : length transitions ≡ length u.instances
  pub places_differ : IsDistinct bytes_eq places
  pub transitions_differ : IsDistinct bytes_eq transitions
  pub apart : All (λ t. All (λ p. bytes_eq t p ≡ false) places) transitions

-- the rows of all instances are rows over the places
pub record HaveRows (u : NetSystem) : Type 0 where
  pub inputs : All (λ t. IsRow t.pre) u.instances
  pub outputs : All (λ t. IsRow t.post) u.instances
  pub inputs_in_range : All (λ t. IsInRange (length u.initial) t.pre) u.instances
  pub outputs_in_range : All (λ t. IsInRange (length u.initial) t.post) u.instances

-- an unfolded net with its instances numbered on, each as the only one of a transition
abbrev pub renumbered_from : ℕ → List Instance → List Instance
renumbered_from at [] = []
renumbered_from at (i ∷ is) = record { transition = at; binding = 0; pre = i.pre; post = i.post } ∷ renumbered_from (at + 1) is

abbrev pub renumbered : NetSystem → NetSystem
renumbered u = record { initial = u.initial; instances = renumbered_from 0 u.instances }

-- a net without references, as it is read
abbrev pub read : List ℕ → List (List ℕ) → List (List ℕ) → NetSystem → ColouredNet
read id places transitions u = coloured_net (λ node. node) (file_net id places transitions u)

-- the net that is read unfolds to the unfolded net, and reaches the same counts
pub record MeansTheSame (id : List ℕ) (places transitions : List (List ℕ)) (u : NetSystem) : Type 0 where
  pub unfolds : unfolding_of (read id places transitions u) ≡ Ok (renumbered u)
  pub reaches : (counts : List ℕ) → PtReach u counts → (m : Marking) × (Reach (read id places transitions u) m × (Flat (read id places transitions u) m ≡ counts))
  pub reached : (m : Marking) → Reach (read id places transitions u) m → PtReach u (Flat (read id places transitions u) m)

abbrev pub FilesMeanTheSame : Type 0
FilesMeanTheSame = (id : List ℕ) (places transitions : List (List ℕ)) (u : NetSystem) → AreNamed places transitions u → HaveRows u → MeansTheSame id places transitions u
