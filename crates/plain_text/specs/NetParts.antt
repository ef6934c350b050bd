-- What each part of a net's tree writes.
use Rattle.std.specs.Prelude.{ℕ, List, [], ◌++◌, flat_map, codes, decimal, ◌==◌, if◌then◌else◌}
use Rattle.doc_model.specs.Texts.{first_line}
use Rattle.plain_text.specs.Markup.{attribute, empty_element, parent_element, element, leaf_text}
use Rattle.plain_model.specs.declared.nets.Place.{Place}
use Rattle.plain_model.specs.declared.nets.Arc.{Arc}
use Rattle.plain_model.specs.declared.nets.PlainNet.{PlainNet}

unfoldable pub id_attribute : List ℕ → List ℕ
id_attribute id = attribute (codes "id") id

unfoldable pub source_attribute : List ℕ → List ℕ
source_attribute source = attribute (codes "source") source

unfoldable pub target_attribute : List ℕ → List ℕ
target_attribute target = attribute (codes "target") target

unfoldable pub marking_text : ℕ → List ℕ
marking_text marking = parent_element (codes "initialMarking") [] (leaf_text (codes "text") (decimal marking))

unfoldable pub inscription_text : ℕ → List ℕ
inscription_text weight = parent_element (codes "inscription") [] (leaf_text (codes "text") (decimal weight))

-- the marking is left out where it is 0
unfoldable pub place_text : Place → List ℕ
place_text place =
    if place.marking == 0
    then empty_element (codes "place") (id_attribute place.id)
    else parent_element (codes "place") (id_attribute place.id) (marking_text place.marking)

unfoldable pub transition_text : List ℕ → List ℕ
transition_text id = empty_element (codes "transition") (id_attribute id)

unfoldable pub arc_attributes : Arc → List ℕ
arc_attributes arc = id_attribute arc.id ++ source_attribute arc.source ++ target_attribute arc.target

-- the inscription is left out where it is 1
unfoldable pub arc_text : Arc → List ℕ
arc_text arc =
    if arc.weight == 1
    then empty_element (codes "arc") (arc_attributes arc)
    else parent_element (codes "arc") (arc_attributes arc) (inscription_text arc.weight)

-- the places, the transitions and the arcs
unfoldable pub nodes_text : PlainNet → List ℕ
nodes_text net = flat_map place_text net.places ++ flat_map transition_text net.transitions ++ flat_map arc_text net.arcs

-- the one page, with what stands on it
abbrev pub page_text : List ℕ → List ℕ
page_text nodes = element (codes "page") (attribute (codes "id") (codes "page")) nodes

unfoldable pub net_element : PlainNet → List ℕ
net_element net =
    parent_element (codes "net")
    (id_attribute net.id ++ attribute (codes "type") (codes "http://www.pnml.org/version-2009/grammar/ptnet"))
    (page_text (nodes_text net))

-- the whole text
abbrev pub net_parts : PlainNet → List ℕ
net_parts net =
    first_line
    ++ parent_element (codes "pnml") (attribute (codes "xmlns") (codes "http://www.pnml.org/version-2009/grammar/pnml"))
    (net_element net)
