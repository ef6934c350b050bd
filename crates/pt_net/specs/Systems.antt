-- A place/transition net with its initial marking, its runs, and the markings that they reach (ISO/IEC 15909-1).
use Rattle.std.specs.Prelude.{◌≡◌, ℕ, ◌^◌, ◌<◌, List, [], ◌∷◌, length, All, AllPairs, sum_by, slice_index_or}
use Rattle.wide_sums.specs.Cells.{amount}
use Rattle.pt_net.specs.declared.instances.Instance.{Instance}
use Rattle.pt_net.specs.Instances.{origin_of, IsBefore}
use Rattle.pt_net.specs.Markings.{IsInRange}
use Rattle.pt_net.specs.Firing.{Fires}

-- the initial count of each place, and the instances of the transitions
pub record NetSystem : Type 0 where
  pub initial : List ℕ
  pub instances : List Instance

abbrev pub system_of : List ℕ → List Instance → NetSystem
system_of initial instances = record { initial = initial; instances = instances }

-- the instance of a number; where there is none, one that takes and adds nothing
abbrev pub instance_at : NetSystem → ℕ → Instance
instance_at net i = slice_index_or net.instances i (record { transition = 0; binding = 0; pre = []; post = [] })

abbrev pub places : NetSystem → ℕ
places net = length net.initial

-- how many instances there are
abbrev pub size : NetSystem → ℕ
size net = length net.instances

-- what the instance `i` takes from the place `p`, and what it puts there
abbrev pub pre : NetSystem → ℕ → ℕ → ℕ
pre net i p = amount p (instance_at net i).pre

abbrev pub post : NetSystem → ℕ → ℕ → ℕ
post net i p = amount p (instance_at net i).post

-- how many cells the input rows have together
abbrev pub input_entries : NetSystem → ℕ
input_entries net = sum_by (λ t. length t.pre) net.instances

-- what is true of each net: counts up to 2^63 - 1, places in range, origins that rise strictly, and fewer than 2^32 places, instances, input entries and output entries each
pub record IsSystem (net : NetSystem) : Type 0 where
  pub counts : All (λ k. k < 2 ^ 63) net.initial
  pub places : length net.initial < 2 ^ 32
  pub instances : length net.instances < 2 ^ 32
  pub rising : AllPairs (λ s t. IsBefore (origin_of s) (origin_of t)) net.instances
  pub inputs_in_range : All (λ t. IsInRange (length net.initial) t.pre) net.instances
  pub outputs_in_range : All (λ t. IsInRange (length net.initial) t.post) net.instances
  pub inputs : sum_by (λ t. length t.pre) net.instances < 2 ^ 32
  pub outputs : sum_by (λ t. length t.post) net.instances < 2 ^ 32

-- the instances of these numbers fire one after another, from `old` to `new`
abbrev pub Run : NetSystem → List ℕ → List ℕ → List ℕ → Type 0
Run net old [] new = new ≡ old
Run net old (i ∷ is) new = (i < length net.instances) × ((mid : List ℕ) × (Fires old (instance_at net i) mid × Run net mid is new))

-- a finite list of firings leads from the initial marking to this one
abbrev pub PtReach : NetSystem → List ℕ → Type 0
PtReach net marking = (is : List ℕ) × Run net net.initial is marking
