-- The document tree of a place/transition net without references, and its canonical text (ISO/IEC 15909-2, `ptnet`).
use Rattle.std.specs.Prelude.{ℕ, List, [], ◌∷◌, ◌++◌, map, codes, decimal, ◌==◌, if◌then◌else◌}
use Rattle.doc_model.specs.declared.tree.Element.{Element}
use Rattle.doc_model.specs.declared.tree.Attribute.{Attribute}
use Rattle.doc_model.specs.Trees.{attribute, element, leaf}
use Rattle.doc_model.specs.Texts.{document_text}
use Rattle.plain_model.specs.declared.nets.Place.{Place}
use Rattle.plain_model.specs.declared.nets.Arc.{Arc}
use Rattle.plain_model.specs.declared.nets.PlainNet.{PlainNet}

abbrev pub id : List ℕ → Attribute
id name = attribute (codes "id") name

-- `initialMarking` or `inscription`, whose `text` is the number
abbrev pub label_tree : List ℕ → ℕ → Element
label_tree name number = element name [] (leaf (codes "text") (decimal number) ∷ []) []

-- a marking of 0 is left out
abbrev pub place_tree : Place → Element
place_tree place =
    element (codes "place") (id place.id ∷ []) (if place.marking == 0 then [] else label_tree (codes "initialMarking") place.marking ∷ []) []

abbrev pub transition_tree : List ℕ → Element
transition_tree name = element (codes "transition") (id name ∷ []) [] []

-- an inscription of 1 is left out
abbrev pub arc_tree : Arc → Element
arc_tree arc =
    element (codes "arc") (id arc.id ∷ attribute (codes "source") arc.source ∷ attribute (codes "target") arc.target ∷ [])
    (if arc.weight == 1 then [] else label_tree (codes "inscription") arc.weight ∷ []) []

-- one page with the places, the transitions and the arcs
abbrev pub page_tree : PlainNet → Element
page_tree net =
    element (codes "page") (id (codes "page") ∷ [])
    (map place_tree net.places ++ map transition_tree net.transitions ++ map arc_tree net.arcs) []

abbrev pub net_tree : PlainNet → Element
net_tree net =
    element (codes "pnml") (attribute (codes "xmlns") (codes "http://www.pnml.org/version-2009/grammar/pnml") ∷ [])
    (element (codes "net") (id net.id ∷ attribute (codes "type") (codes "http://www.pnml.org/version-2009/grammar/ptnet") ∷ []) (page_tree net ∷ []) [] ∷ []) []

unfoldable pub net_text : PlainNet → List ℕ
net_text net = document_text (net_tree net)
