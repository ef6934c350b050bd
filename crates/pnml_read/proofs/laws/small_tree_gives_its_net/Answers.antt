use Rattle.std.proofs.Common.{◌≡◌, List, [], ◌∷◌, map, Option, Some, None, codes, cond, refl, ap, ◌∙◌}
use Rattle.std.specs.List.{find}
use Rattle.std.specs.Str.{bytes_eq}
use Rattle.name_tables.specs.Grammar.{number_of}
use Rattle.doc_tree.specs.Characters.{is_white}
use Rattle.doc_model.specs.declared.tree.Element.{Element, out-Element, out-roll-Element}
use Rattle.doc_model.specs.declared.tree.Element.TheOpen.{Element-F}
use Rattle.doc_model.specs.Trees.{attribute}
use Rattle.net_model.specs.declared.kinds.Kind.TheVariants.{Pt}
use Rattle.net_model.specs.declared.nets.Net.{Net}
use Rattle.net_elements.specs.Rules.{kind_from, value_of}
use Rattle.pnml_read.specs.Instances.{arc_attributes, arc_tree, marking_tree, net_attributes, net_tree, place_tree, small_tree, transition_tree}
use Rattle.pnml_read.specs.Nets.{Given, given, net_in, net_with, text_in}
use Rattle.pnml_read.proofs.Elements.{element_gives, gives}
use Rattle.pnml_read.proofs.laws.small_tree_gives_its_net.Goals as goal

-- what each element gives
abbrev given_marking : Given
given_marking = gives (codes "initialMarking") [] (gives (codes "text") [] [] (codes "2") ∷ []) []

abbrev given_place : Given
given_place = gives (codes "place") (attribute (codes "id") (codes "a") ∷ []) (given_marking ∷ []) []

abbrev given_transition : Given
given_transition = gives (codes "transition") (attribute (codes "id") (codes "t") ∷ []) [] []

abbrev given_arc : Given
given_arc = gives (codes "arc") arc_attributes [] []

abbrev given_net : Given
given_net = gives (codes "net") net_attributes (given_place ∷ given_transition ∷ given_arc ∷ []) []

marking_gives : given marking_tree ≡ given_marking
marking_gives =
    element_gives (codes "initialMarking") [] _ []
    ∙ ap (λ g. gives (codes "initialMarking") [] (g ∷ []) []) (element_gives (codes "text") [] [] (codes "2"))

place_gives : given place_tree ≡ given_place
place_gives =
    element_gives (codes "place") (attribute (codes "id") (codes "a") ∷ []) (marking_tree ∷ []) []
    ∙ ap (λ g. gives (codes "place") (attribute (codes "id") (codes "a") ∷ []) (g ∷ []) []) marking_gives

net_gives : given net_tree ≡ given_net
net_gives =
    element_gives (codes "net") net_attributes (place_tree ∷ transition_tree ∷ arc_tree ∷ []) []
    ∙ ap (λ g. gives (codes "net") net_attributes (g ∷ given transition_tree ∷ given arc_tree ∷ []) []) place_gives
    ∙ ap (λ g. gives (codes "net") net_attributes (given_place ∷ g ∷ given arc_tree ∷ []) []) (element_gives (codes "transition") (attribute (codes "id") (codes "t") ∷ []) [] [])
    ∙ ap (λ g. gives (codes "net") net_attributes (given_place ∷ given_transition ∷ g ∷ []) []) (element_gives (codes "arc") arc_attributes [] [])

-- the net element is found, and the net is made of what it holds and gives

found : find (λ e. bytes_eq (out-Element e).name (codes "net")) (out-Element small_tree).children ≡ Some net_tree
found =
    ap (λ y. find (λ e. bytes_eq (out-Element e).name (codes "net")) y.children) (out-roll-Element _)
    ∙ ap (λ y. cond (bytes_eq y.name (codes "net")) (Some net_tree) None) (out-roll-Element _)

abbrev net_by : Element-F Element → Given → Net
net_by y g = let kind = kind_from Pt (value_of (codes "type") y.attributes) in net_with (text_in (codes "id") y.attributes) kind (g.lists kind)

abbrev net_layer : Element-F Element
net_layer = record { at = 0; name = codes "net"; attributes = net_attributes; children = place_tree ∷ transition_tree ∷ arc_tree ∷ []; text = [] }

pub returns : goal.returns
unfolding number_of is_white
returns c = ap net_in found ∙ ap (λ y. net_by y (given net_tree)) (out-roll-Element net_layer) ∙ ap (net_by net_layer) net_gives
