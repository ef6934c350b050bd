-- A small tree and its net, as an instance of the definition.
use Rattle.std.specs.Prelude.{◌≡◌, List, [], ◌∷◌, codes, None}
use Rattle.doc_model.specs.declared.tree.Attribute.{Attribute}
use Rattle.doc_model.specs.declared.tree.Element.{Element}
use Rattle.doc_model.specs.Trees.{attribute, element, leaf}
use Rattle.net_model.specs.declared.kinds.Kind.TheVariants.{Pt}
use Rattle.net_model.specs.declared.nets.Label.TheVariants.{Count}
use Rattle.net_model.specs.declared.nets.Net.{Net}
use Rattle.net_model.specs.declared.sorts.SortTerm.TheVariants.{Dot}
use Rattle.pnml_read.specs.Nets.{net_of}

-- a place with two tokens, a transition, and an arc between them
abbrev pub marking_tree : Element
marking_tree = element (codes "initialMarking") [] (leaf (codes "text") (codes "2") ∷ []) []

abbrev pub place_tree : Element
place_tree = element (codes "place") (attribute (codes "id") (codes "a") ∷ []) (marking_tree ∷ []) []

abbrev pub transition_tree : Element
transition_tree = element (codes "transition") (attribute (codes "id") (codes "t") ∷ []) [] []

abbrev pub arc_attributes : List Attribute
arc_attributes = attribute (codes "id") (codes "b") ∷ attribute (codes "source") (codes "a") ∷ attribute (codes "target") (codes "t") ∷ []

abbrev pub arc_tree : Element
arc_tree = element (codes "arc") arc_attributes [] []

abbrev pub net_attributes : List Attribute
net_attributes = attribute (codes "id") (codes "n") ∷ attribute (codes "type") (codes "http://www.pnml.org/version-2009/grammar/ptnet") ∷ []

abbrev pub net_tree : Element
net_tree = element (codes "net") net_attributes (place_tree ∷ transition_tree ∷ arc_tree ∷ []) []

abbrev pub small_tree : Element
small_tree = element (codes "pnml") [] (net_tree ∷ []) []

-- its net; the arc's weight is left out, so it is 1
abbrev pub small_net : Net
small_net = record {
  id = codes "n";
  kind = Pt;
  sorts = [];
  partitions = [];
  variables = [];
  places = record { id = codes "a"; sort = Dot; marking = Count 2 } ∷ [];
  transitions = record { id = codes "t"; guard = None } ∷ [];
  references = [];
  arcs = record { id = codes "b"; source = codes "a"; target = codes "t"; label = Count 1 } ∷ [];
}

abbrev pub SmallTreeGivesItsNet : Type 0
SmallTreeGivesItsNet = net_of small_tree ≡ small_net
