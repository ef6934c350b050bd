-- Instances of the definitions that were worked out by hand.
use Rattle.std.specs.Prelude.{◌≡◌, ℕ, List, [], ◌∷◌, codes, map, Option, None, Some}
use Rattle.net_model.specs.declared.kinds.Kind.TheVariants as kind
use Rattle.net_model.specs.declared.nets.Label.TheVariants as label
use Rattle.net_model.specs.declared.nets.Net.{Net}
use Rattle.net_model.specs.declared.nets.Reference.{Reference}
use Rattle.net_model.specs.declared.nets.RefKind.{RefKind}
use Rattle.net_model.specs.declared.nets.RefKind.TheVariants as refers
use Rattle.net_model.specs.declared.sorts.SortTerm.TheVariants as sort
use Rattle.net_nodes.specs.declared.nodes.Node.TheVariants as node
use Rattle.net_nodes.specs.declared.nodes.End.TheVariants as end
use Rattle.net_nodes.specs.declared.nodes.ReferenceFault.{ReferenceFault}
use Rattle.net_nodes.specs.declared.nodes.ReferenceFault.TheVariants as fault
use Rattle.net_nodes.specs.Nodes.{end_named, first_broken, followed, node_named, reference_fault}

abbrev pub refer : RefKind → List ℕ → List ℕ → Reference
refer kind id target = record { id = id; kind = kind; target = target }

-- places `p` and `q`, a transition `t`, an arc `a`, and references
abbrev pub net_with : List Reference → Net
net_with references = record {
  id = codes "n";
  kind = kind.Pt;
  sorts = [];
  partitions = [];
  variables = [];
  places = record { id = codes "p"; sort = sort.Dot; marking = label.Count 0 } ∷ record { id = codes "q"; sort = sort.Dot; marking = label.Count 0 } ∷ [];
  transitions = record { id = codes "t"; guard = None } ∷ [];
  references = references;
  arcs = record { id = codes "a"; source = codes "p"; target = codes "t"; label = label.Count 1 } ∷ [];
}

-- `x` leads by `y` and `z` to the place `q`; `u` leads to the transition
abbrev pub chains : Net
chains = net_with (
    refer refers.Place (codes "x") (codes "y")
    ∷ refer refers.Place (codes "y") (codes "z")
    ∷ refer refers.Transition (codes "u") (codes "t")
    ∷ refer refers.Place (codes "z") (codes "q") ∷ [])

-- the faults of a net of these references
abbrev pub faults : List Reference → List (Option ReferenceFault)
faults references = map (reference_fault (net_with references)) references

pub record WorkedInstances : Type 0 where
  pub place : node_named chains (codes "q") ≡ Some (node.Place 1)
  pub transition : node_named chains (codes "t") ≡ Some (node.Transition 0)
  pub reference : node_named chains (codes "u") ≡ Some (node.Reference 2)
  pub arc : node_named chains (codes "a") ≡ None
  -- along a chain, forwards and backwards in the list of references
  pub unbroken : first_broken chains ≡ None
  pub of_chain : end_named chains (codes "x") ≡ Some (end.Place 1)
  pub of_other : end_named chains (codes "u") ≡ Some (end.Transition 0)
  pub itself : end_named chains (codes "p") ≡ Some (end.Place 0)
  pub nowhere : end_named chains (codes "a") ≡ None
  pub id_at_end : followed chains (codes "x") ≡ codes "q"
  pub own_id : followed chains (codes "a") ≡ codes "a"
  -- the id of an arc is no node's; the kind is compared at each node along the chain, before what lies behind it
  pub unknown : faults (refer refers.Place (codes "x") (codes "a") ∷ refer refers.Transition (codes "y") (codes "x") ∷ refer refers.Place (codes "z") (codes "x") ∷ [])
      ≡ Some fault.UnknownNode ∷ Some fault.OtherKind ∷ Some fault.UnknownNode ∷ []
  pub kinds : faults (refer refers.Place (codes "x") (codes "t") ∷ refer refers.Transition (codes "y") (codes "q") ∷ []) ≡ Some fault.OtherKind ∷ Some fault.OtherKind ∷ []
  -- a circle, and a way into it
  pub itself_circle : faults (refer refers.Place (codes "x") (codes "x") ∷ []) ≡ Some fault.Circle ∷ []
  pub circle : faults (refer refers.Place (codes "x") (codes "y") ∷ refer refers.Place (codes "y") (codes "z") ∷ refer refers.Place (codes "z") (codes "y") ∷ [])
      ≡ Some fault.Circle ∷ Some fault.Circle ∷ Some fault.Circle ∷ []
  -- a circle of both kinds is met as another kind first
  pub mixed : faults (refer refers.Place (codes "x") (codes "y") ∷ refer refers.Transition (codes "y") (codes "x") ∷ []) ≡ Some fault.OtherKind ∷ Some fault.OtherKind ∷ []
  -- the first broken one, with its number
  pub first : first_broken (net_with (refer refers.Place (codes "x") (codes "p") ∷ refer refers.Place (codes "y") (codes "b") ∷ refer refers.Place (codes "z") (codes "z") ∷ [])) ≡ Some (1, fault.UnknownNode)
