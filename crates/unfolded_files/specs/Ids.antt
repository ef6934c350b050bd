-- The ids of the net of a file that stands for an unfolded net.
use Rattle.std.specs.Prelude.{◌≡◌, ℕ, ◌+◌, ◌^◌, ◌<◌, true, false, List, All, length, slice_index}
use Rattle.std.specs.List.{IsDistinct}
use Rattle.std.specs.Str.{bytes_eq}
use Rattle.name_tables.specs.Grammar.{is_id_text}
use Rattle.net_model.specs.Ids.{node_ids}
use Rattle.net_model.specs.declared.nets.Net.{Net}
use Rattle.pt_net.specs.Numbering.{IsNumbering, NetNumbering}
use Rattle.pt_net.specs.Systems.{IsSystem, NetSystem}
use Rattle.unfolded_files.specs.Files.{file_net, instance_id, place_ids, transition_ids}
use Rattle.unfolded_files.specs.Laws.{AreNamed}

-- ids of instances
abbrev pub IsInstanceId : List ℕ → Type 0
IsInstanceId id = (x : List ℕ) × ((k : ℕ) × (id ≡ instance_id x k))

pub record AreInstanceIds (ids : List (List ℕ)) : Type 0 where
  pub texts : All (λ id. is_id_text id ≡ true) ids
  pub dotted : All IsInstanceId ids

-- all nodes and arcs of a net have ids that differ
pub record HasNodeIds (net : Net) : Type 0 where
  pub texts : All (λ id. is_id_text id ≡ true) (node_ids net)
  pub differ : IsDistinct bytes_eq (node_ids net)

-- a file whose places and transitions have ids of instances
abbrev pub FilesHaveIds : Type 0
FilesHaveIds = (id : List ℕ) (places transitions : List (List ℕ)) (u : NetSystem) → IsSystem u → AreNamed places transitions u → AreInstanceIds places → AreInstanceIds transitions
    → HasNodeIds (file_net id places transitions u)

-- the ids of the places and transitions of a net are ids that differ
pub record HasOwnNames (l : NetNumbering) : Type 0 where
  pub places : All (λ id. is_id_text id ≡ true) l.places
  pub transitions : All (λ id. is_id_text id ≡ true) l.transitions
  pub places_differ : IsDistinct bytes_eq l.places
  pub transitions_differ : IsDistinct bytes_eq l.transitions
  pub apart : All (λ t. All (λ p. bytes_eq t p ≡ false) l.places) l.transitions

-- an unfolded net whose instances have these numbers
pub record AreNumbersOf (l : NetNumbering) (u : NetSystem) : Type 0 where
  pub numbering : IsNumbering l
  pub system : IsSystem u
  pub places : slice_index l.starts (length l.places) ≡ length u.initial
  pub transitions : All (λ t. t.transition < length l.transitions) u.instances
  pub bindings : All (λ t. t.binding < 2 ^ 32) u.instances

pub record HaveInstanceIds (l : NetNumbering) (u : NetSystem) : Type 0 where
  pub named : AreNamed (place_ids l) (transition_ids l u) u
  pub places : AreInstanceIds (place_ids l)
  pub transitions : AreInstanceIds (transition_ids l u)

abbrev pub InstancesHaveIds : Type 0
InstancesHaveIds = (l : NetNumbering) (u : NetSystem) → HasOwnNames l → AreNumbersOf l u → HaveInstanceIds l u
