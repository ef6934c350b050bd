use Rattle.std.proofs.Common.{codes, decimal, refl, ◌∙◌}
use Rattle.std.specs.Fmt.{digits}
use Rattle.doc_model.specs.Texts.{first_line}
use Rattle.plain_text.specs.Examples.{ring_net, ring_property}
use Rattle.plain_text.specs.Markup.{text_element}
use Rattle.plain_text.specs.NetParts.{arc_attributes, arc_text, id_attribute, inscription_text, marking_text, net_element, nodes_text, place_text, source_attribute, target_attribute, transition_text}
use Rattle.plain_text.specs.PropertyParts.{count_text, formula_text, listed_place}
use Rattle.plain_text.proofs.Leaves.{leaf_text-text}
use Rattle.plain_text.proofs.NetTrees.{net_text-parts}
use Rattle.plain_text.proofs.PropertyTrees.{property_text-parts}
use Rattle.plain_text.proofs.examples.ring_texts.Goals as goal

pub returns-clause-net : goal.returns-clause-net
unfolding digits first_line arc_attributes arc_text id_attribute inscription_text marking_text net_element nodes_text place_text source_attribute target_attribute transition_text text_element
returns-clause-net c = net_text-parts ring_net ∙ rw (leaf_text-text (codes "text") (decimal 1)) refl

pub returns-clause-property : goal.returns-clause-property
unfolding digits first_line text_element count_text formula_text listed_place
returns-clause-property c =
    property_text-parts ring_property
    ∙ rw (leaf_text-text (codes "id") (codes "P"), leaf_text-text (codes "place") (codes "p0"), leaf_text-text (codes "place") (codes "p1"), leaf_text-text (codes "integer-constant") (decimal 1)) refl

pub returns-clause-certificate : goal.returns-clause-certificate
unfolding digits
returns-clause-certificate c = refl
