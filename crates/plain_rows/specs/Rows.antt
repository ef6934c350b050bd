-- The rows of the net of a file.
use Rattle.std.specs.Prelude.{◌≡◌, ℕ, List, length, Some, slice_get, ◌↔◌}
use Rattle.pt_net.specs.declared.instances.Instance.{Instance}
use Rattle.pt_net.specs.Instances.{origin_of}
use Rattle.pt_net.specs.Markings.{counts_of}
use Rattle.pt_net.specs.Systems.{NetSystem, instance_at, PtReach}
use Rattle.plain_model.specs.declared.nets.PlainNet.{PlainNet}
use Rattle.plain_model.specs.Firing.{inputs, outputs, initial, Reach}

-- the instance of the transition with this number and this id: its rows are what the transition takes and puts
pub record IsInstanceOf (net : PlainNet) (number : ℕ) (id : List ℕ) (instance : Instance) : Type 0 where
  pub origin : origin_of instance ≡ record { transition = number; binding = 0 }
  pub pre : counts_of (length net.places) instance.pre ≡ inputs net id
  pub post : counts_of (length net.places) instance.post ≡ outputs net id

-- the initial marking of the net, and one instance for each transition in their order
pub record AreRowsOf (net : PlainNet) (system : NetSystem) : Type 0 where
  pub initial : system.initial ≡ initial net
  pub as_many : length system.instances ≡ length net.transitions
  pub each : (number : ℕ) (id : List ℕ) → slice_get net.transitions number ≡ Some id → IsInstanceOf net number id (instance_at system number)

-- firing along the arcs of the file and firing over the rows reach the same markings
abbrev pub ReachTheSame : PlainNet → NetSystem → Type 0
ReachTheSame net system = (marking : List ℕ) → Reach net marking ↔ PtReach system marking
