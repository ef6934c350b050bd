use Rattle.std.proofs.Common.{[], ◌++◌, map, codes, append_assoc, ap, ◌∙◌}
use Rattle.doc_model.specs.Texts.{attribute_text, content_text, start_text, text_of}
use Rattle.doc_model.specs.Trees.{attribute}
use Rattle.net_elements.specs.declared.roles.Role.TheVariants as role
use Rattle.net_elements.specs.Table.{word_of}
use Rattle.pnml_write.specs.Canon.{attribute_id, unless_usual}
use Rattle.pnml_write.proofs.Texts.{after_three, four_pieces}
use Rattle.pnml_write.proofs.counts.put_counted_arc.Goals as goal

pub returns : goal.returns
returns c =
    let old = c.args.writer.now in
    let id = c.args.id.now in
    let source = attribute (codes "source") c.args.source.now in
    let target = attribute (codes "target") c.args.target.now in
    let labels = unless_usual 1 role.Inscription c.args.count in
    four_pieces old (start_text (word_of role.Arc) ++ attribute_text (attribute_id id)) (attribute_text source) (attribute_text target)
    (content_text (word_of role.Arc) (map text_of labels) [])
    (c.in_ok-put_id.ensures ∙ append_assoc old (start_text (word_of role.Arc)) (attribute_text (attribute_id id))) c.in_ok-attribute.ensures c.in_ok-attribute-2.ensures c.in_ok-put_count.ensures
    ∙ ap (λ text. old ++ text) (after_three role.Arc id source target labels)
