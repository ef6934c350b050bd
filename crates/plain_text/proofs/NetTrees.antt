-- The text of a net's tree, part by part.
use Rattle.std.proofs.Common.{◌≡◌, ℕ, List, [], ◌∷◌, ◌++◌, map, flat_map, codes, decimal, ◌==◌, refl, ap, ◌∙◌}
use Rattle.std.proofs.lemmas.Grind.{flat_map-append}
use Rattle.plain_model.specs.declared.nets.Place.{Place}
use Rattle.plain_model.specs.declared.nets.Arc.{Arc}
use Rattle.plain_model.specs.declared.nets.PlainNet.{PlainNet}
use Rattle.doc_model.specs.Texts.{first_line, text_of}
use Rattle.doc_model.specs.Trees.{attribute, leaf}
use Rattle.plain_text.specs.Markup.{leaf_text, parent_element}
use Rattle.plain_text.specs.NetParts.{arc_attributes, arc_text, id_attribute, inscription_text, marking_text, net_element, net_parts, nodes_text, page_text, place_text, source_attribute, target_attribute, transition_text}
use Rattle.plain_text.specs.Nets.{arc_tree, id, label_tree, net_text, page_tree, place_tree, transition_tree}
use Rattle.plain_text.proofs.Trees.{any-tree, children_text, empty-tree, map-tree, one_attribute, one_child, optional-tree, parent-tree, three_attributes, two_attributes}

label-tree : (name : List ℕ) (number : ℕ) → text_of (label_tree name number) ≡ parent_element name [] (leaf_text (codes "text") (decimal number))
unfolding leaf_text
label-tree name number = parent-tree name [] (leaf (codes "text") (decimal number)) [] [] _ refl (one_child (leaf (codes "text") (decimal number)))

place-tree : (place : Place) → text_of (place_tree place) ≡ place_text place
unfolding place_text id_attribute marking_text
place-tree place =
    optional-tree (place.marking == 0) (codes "place") (id place.id ∷ []) (label_tree (codes "initialMarking") place.marking) _ _
    (one_attribute (id place.id)) (label-tree (codes "initialMarking") place.marking)

transition-tree : (name : List ℕ) → text_of (transition_tree name) ≡ transition_text name
unfolding transition_text id_attribute
transition-tree name = empty-tree (codes "transition") (id name ∷ []) _ (one_attribute (id name))

arc-tree : (arc : Arc) → text_of (arc_tree arc) ≡ arc_text arc
unfolding arc_text arc_attributes id_attribute source_attribute target_attribute inscription_text
arc-tree arc =
    let source = attribute (codes "source") arc.source in
    let target = attribute (codes "target") arc.target in
    optional-tree (arc.weight == 1) (codes "arc") (id arc.id ∷ source ∷ target ∷ []) (label_tree (codes "inscription") arc.weight) _ _
    (three_attributes (id arc.id) source target) (label-tree (codes "inscription") arc.weight)

nodes-tree : (net : PlainNet) → children_text (map place_tree net.places ++ map transition_tree net.transitions ++ map arc_tree net.arcs) ≡ nodes_text net
unfolding nodes_text
nodes-tree net =
    let places = map place_tree net.places in
    let transitions = map transition_tree net.transitions in
    flat_map-append text_of (places ++ transitions) (map arc_tree net.arcs)
    ∙ ap (λ front. front ++ children_text (map arc_tree net.arcs)) (flat_map-append text_of places transitions)
    ∙ ap (λ text. text ++ children_text transitions ++ children_text (map arc_tree net.arcs)) (map-tree place_tree place_text place-tree net.places)
    ∙ ap (λ text. flat_map place_text net.places ++ text ++ children_text (map arc_tree net.arcs)) (map-tree transition_tree transition_text transition-tree net.transitions)
    ∙ ap (λ text. flat_map place_text net.places ++ flat_map transition_text net.transitions ++ text) (map-tree arc_tree arc_text arc-tree net.arcs)

page-tree : (net : PlainNet) → text_of (page_tree net) ≡ page_text (nodes_text net)
page-tree net = any-tree (codes "page") (id (codes "page") ∷ []) _ _ _ (one_attribute (id (codes "page"))) (nodes-tree net)

pub net_text-parts : (net : PlainNet) → net_text net ≡ net_parts net
unfolding net_text net_element id_attribute
net_text-parts net =
    let kind = attribute (codes "type") (codes "http://www.pnml.org/version-2009/grammar/ptnet") in
    let inner = parent-tree (codes "net") (id net.id ∷ kind ∷ []) (page_tree net) [] _ _ (two_attributes (id net.id) kind) (one_child (page_tree net) ∙ page-tree net) in
    let xmlns = attribute (codes "xmlns") (codes "http://www.pnml.org/version-2009/grammar/pnml") in
    ap (λ root. first_line ++ root) (parent-tree (codes "pnml") (xmlns ∷ []) _ [] _ _ (one_attribute xmlns) (one_child _ ∙ inner))
