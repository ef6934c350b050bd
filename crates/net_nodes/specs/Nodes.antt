-- What the ids of a net name, and for which place or transition a reference stands (ISO/IEC 15909-2, reference nodes).
use Rattle.std.specs.Prelude.{◌≡◌, ℕ, zero, suc, ◌+◌, List, [], ◌∷◌, length, map, slice_get, slice_index_or, Option, None, Some, Result, Ok, Err, ⊤}
use Rattle.std.specs.Option.{option_map, option_or}
use Rattle.std.specs.Result.{result_unwrap_or}
use Rattle.name_tables.specs.Numbering.{number_in}
use Rattle.net_model.specs.declared.nets.Net.{Net}
use Rattle.net_model.specs.declared.nets.Reference.{Reference}
use Rattle.net_model.specs.declared.nets.RefKind.{RefKind}
use Rattle.net_model.specs.declared.nets.RefKind.TheVariants as refers
use Rattle.net_nodes.specs.declared.nodes.Node.{Node}
use Rattle.net_nodes.specs.declared.nodes.Node.TheVariants as node
use Rattle.net_nodes.specs.declared.nodes.End.{End}
use Rattle.net_nodes.specs.declared.nodes.End.TheVariants as end
use Rattle.net_nodes.specs.declared.nodes.NodeFault.{NodeFault}
use Rattle.net_nodes.specs.declared.nodes.NodeFault.TheVariants as refused
use Rattle.net_nodes.specs.declared.nodes.ReferenceFault.{ReferenceFault}
use Rattle.net_nodes.specs.declared.nodes.ReferenceFault.TheVariants as fault

-- the ids of the nodes of a net
pub record NodeIds : Type 0 where
  pub places : List (List ℕ)
  pub transitions : List (List ℕ)
  pub references : List (List ℕ)

abbrev pub ids_of_nodes : Net → NodeIds
ids_of_nodes net = record { places = map (λ p. p.id) net.places; transitions = map (λ t. t.id) net.transitions; references = map (λ r. r.id) net.references }

-- the node that an id names; the id of an arc names none
abbrev pub named_among : NodeIds → List ℕ → Option Node
named_among ids id =
    option_or (option_map node.Place (number_in ids.places id))
    (option_or (option_map node.Transition (number_in ids.transitions id))
    (option_map node.Reference (number_in ids.references id)))

abbrev pub node_named : Net → List ℕ → Option Node
node_named net id = named_among (ids_of_nodes net) id

-- the kind of the reference of a number, and the id of the node to which it leads
abbrev pub kind_at : Net → ℕ → RefKind
kind_at net at = slice_index_or (map (λ r. r.kind) net.references) at refers.Place

abbrev pub target_at : Net → ℕ → List ℕ
target_at net at = slice_index_or (map (λ r. r.target) net.references) at []

-- only a node of the same kind can be stood for
abbrev pub of_kind : RefKind → RefKind → Result End ReferenceFault → Result End ReferenceFault
of_kind refers.Place refers.Place there = there
of_kind refers.Transition refers.Transition there = there
of_kind _ _ there = Err fault.OtherKind

-- where a chain of one kind leads that has come to a node, if a reference leads on as `kinds` and `onward` tell
abbrev pub led : RefKind → (ℕ → RefKind) → (ℕ → Result End ReferenceFault) → Option Node → Result End ReferenceFault
led kind kinds onward None = Err fault.UnknownNode
led kind kinds onward (Some (node.Place at)) = of_kind kind refers.Place (Ok (end.Place at))
led kind kinds onward (Some (node.Transition at)) = of_kind kind refers.Transition (Ok (end.Transition at))
led kind kinds onward (Some (node.Reference at)) = of_kind kind (kinds at) (onward at)

-- where a chain of one kind leads from an id along no more references than so many; the first fault along the chain counts
abbrev pub end_within : Net → RefKind → ℕ → List ℕ → Result End ReferenceFault
end_within net kind zero id = led kind (kind_at net) (λ _. Err fault.Circle) (node_named net id)
end_within net kind (suc steps) id = led kind (kind_at net) (λ at. end_within net kind steps (target_at net at)) (node_named net id)

-- the place or transition for which a reference stands; a chain of more references than there are goes round in a circle
abbrev pub end_of : Net → Reference → Result End ReferenceFault
end_of net r = end_within net r.kind (length net.references) r.target

abbrev pub fault_in : Result End ReferenceFault → Option ReferenceFault
fault_in (Ok there) = None
fault_in (Err broken) = Some broken

-- why a reference stands for nothing, and for the first of a net's references that does so its number and why
abbrev pub reference_fault : Net → Reference → Option ReferenceFault
reference_fault net r = fault_in (end_of net r)

abbrev pub broken_at : ℕ → Option ReferenceFault → Option (ℕ × ReferenceFault) → Option (ℕ × ReferenceFault)
broken_at at None later = later
broken_at at (Some broken) later = Some (at, broken)

abbrev pub first_broken_from : Net → ℕ → List Reference → Option (ℕ × ReferenceFault)
first_broken_from net at [] = None
first_broken_from net at (r ∷ more) = broken_at at (reference_fault net r) (first_broken_from net (at + 1) more)

abbrev pub first_broken : Net → Option (ℕ × ReferenceFault)
first_broken net = first_broken_from net 0 net.references

-- what refuses a net: its first broken reference, if not want of memory
abbrev pub IsRefused : Net → NodeFault → Type 0
IsRefused net (refused.Broken reference broken) = first_broken net ≡ Some (reference, broken)
IsRefused net refused.Memory = ⊤

-- the nodes of a net, with the place or transition for each reference. Where no reference is broken, each has its own.
pub record Nodes : Type 0 where
  pub ids : NodeIds
  pub ends : List End

abbrev pub ends_of : Net → List End
ends_of net = map (λ r. result_unwrap_or (end_of net r) (end.Place 0)) net.references

abbrev pub nodes_of : Net → Nodes
nodes_of net = record { ids = ids_of_nodes net; ends = ends_of net }

-- the place or transition for which the node of an id stands: itself, where it is no reference
abbrev pub end_at : List End → Option Node → Option End
end_at ends None = None
end_at ends (Some (node.Place at)) = Some (end.Place at)
end_at ends (Some (node.Transition at)) = Some (end.Transition at)
end_at ends (Some (node.Reference at)) = slice_get ends at

abbrev pub end_among : Nodes → List ℕ → Option End
end_among nodes id = end_at nodes.ends (named_among nodes.ids id)

abbrev pub end_named : Net → List ℕ → Option End
end_named net id = end_among (nodes_of net) id

-- the id of that place or transition, and the id itself where no node has it
abbrev pub id_of_end : NodeIds → List ℕ → Option End → List ℕ
id_of_end ids id None = id
id_of_end ids id (Some (end.Place at)) = slice_index_or ids.places at id
id_of_end ids id (Some (end.Transition at)) = slice_index_or ids.transitions at id

abbrev pub followed : Net → List ℕ → List ℕ
followed net id = id_of_end (ids_of_nodes net) id (end_named net id)
