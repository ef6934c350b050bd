use Rattle.std.proofs.Common.{[], ◌++◌, map, append_assoc, ap, ◌∙◌}
use Rattle.doc_model.specs.Texts.{attribute_text, content_text, start_text, text_of}
use Rattle.net_elements.specs.declared.roles.Role.TheVariants as role
use Rattle.net_elements.specs.Table.{word_of}
use Rattle.pnml_write.specs.Canon.{attribute_id, unless_usual}
use Rattle.pnml_write.proofs.Texts.{after_id, two_pieces}
use Rattle.pnml_write.proofs.counts.put_counted_place.Goals as goal

pub returns : goal.returns
returns c =
    let old = c.args.writer.now in
    let id = c.args.id.now in
    let labels = unless_usual 0 role.InitialMarking c.args.count in
    two_pieces old (start_text (word_of role.Place) ++ attribute_text (attribute_id id)) (content_text (word_of role.Place) (map text_of labels) [])
    (c.in_ok-put_id.ensures ∙ append_assoc old (start_text (word_of role.Place)) (attribute_text (attribute_id id))) c.in_ok-put_count.ensures
    ∙ ap (λ text. old ++ text) (after_id role.Place id labels)
