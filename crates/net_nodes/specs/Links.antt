-- References with the nodes to which they lead, by number.
use Rattle.std.specs.Prelude.{◌≡◌, ℕ, zero, suc, ◌<◌, List, length, map, slice_get, slice_index_or, Option, None, Some, Result, Ok, Err, ⊤}
use Rattle.net_model.specs.declared.nets.Reference.{Reference}
use Rattle.net_model.specs.declared.nets.RefKind.{RefKind}
use Rattle.net_model.specs.declared.nets.RefKind.TheVariants as refers
use Rattle.net_nodes.specs.declared.links.Link.{Link}
use Rattle.net_nodes.specs.declared.walking.Step.{Step}
use Rattle.net_nodes.specs.declared.walking.Step.TheVariants as step
use Rattle.net_nodes.specs.declared.nodes.Node.{Node}
use Rattle.net_nodes.specs.declared.nodes.Node.TheVariants as node
use Rattle.net_nodes.specs.declared.nodes.End.{End}
use Rattle.net_nodes.specs.declared.nodes.NodeFault.{NodeFault}
use Rattle.net_nodes.specs.declared.nodes.NodeFault.TheVariants as refused
use Rattle.net_nodes.specs.declared.nodes.ReferenceFault.{ReferenceFault}
use Rattle.net_nodes.specs.declared.nodes.ReferenceFault.TheVariants as fault
use Rattle.net_nodes.specs.Nodes.{NodeIds, led, named_among}

abbrev pub link_of : NodeIds → Reference → Link
link_of ids r = record { kind = r.kind; target = named_among ids r.target }

abbrev pub links_of : NodeIds → List Reference → List Link
links_of ids references = map (link_of ids) references

abbrev pub no_link : Link
no_link = record { kind = refers.Place; target = None }

abbrev pub link_kind : List Link → ℕ → RefKind
link_kind links at = (slice_index_or links at no_link).kind

abbrev pub link_target : List Link → ℕ → Option Node
link_target links at = (slice_index_or links at no_link).target

-- where a chain of one kind leads from a node along no more references than so many
abbrev pub end_by : List Link → RefKind → ℕ → Option Node → Result End ReferenceFault
end_by links kind zero there = led kind (link_kind links) (λ _. Err fault.Circle) there
end_by links kind (suc steps) there = led kind (link_kind links) (λ at. end_by links kind steps (link_target links at)) there

-- where the chain of a reference leads
abbrev pub link_end : List Link → ℕ → Result End ReferenceFault
link_end links at = end_by links (link_kind links at) (length links) (link_target links at)

-- links lead to references that are there
abbrev pub IsInside : ℕ → Option Node → Type 0
IsInside many (Some (node.Reference at)) = at < many
IsInside many _ = ⊤

abbrev pub AreInside : List Link → Type 0
AreInside links = (at : ℕ) → at < length links → IsInside (length links) (link_target links at)

-- what is known of each reference is where it leads
pub record AreKnown (links : List Link) (known : List (Option End)) : Type 0 where
  pub many : length known ≡ length links
  pub sound : (at : ℕ) (there : End) → slice_get known at ≡ Some (Some there) → link_end links at ≡ Ok there

-- the next step along a chain: where it leads, or on from another reference of the same kind
abbrev pub IsStep : List Link → RefKind → Option Node → Step → Type 0
IsStep links kind target (step.Ended answer) = led kind (link_kind links) (link_end links) target ≡ answer
IsStep links kind target (step.Onward at) = (target ≡ Some (node.Reference at)) × (link_kind links at ≡ kind)

-- the ends of the first so many references, which are all there
pub record AreEnds (links : List Link) (count : ℕ) (ends : List End) : Type 0 where
  pub many : length ends ≡ count
  pub each : (at : ℕ) (d : End) → at < count → link_end links at ≡ Ok (slice_index_or ends at d)

-- the first reference that leads nowhere
pub record IsFirstBroken (links : List Link) (at : ℕ) (broken : ReferenceFault) : Type 0 where
  pub within : at < length links
  pub before : (k : ℕ) → k < at → (there : End) × (link_end links k ≡ Ok there)
  pub is : link_end links at ≡ Err broken

abbrev pub IsRefusal : List Link → NodeFault → Type 0
IsRefusal links (refused.Broken reference broken) = IsFirstBroken links reference broken
IsRefusal links refused.Memory = ⊤
