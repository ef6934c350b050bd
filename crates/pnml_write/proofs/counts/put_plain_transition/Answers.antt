use Rattle.std.proofs.Common.{[], ◌++◌, codes, append_assoc, ap, ◌∙◌}
use Rattle.doc_model.specs.Texts.{attribute_text, start_text}
use Rattle.net_elements.specs.declared.roles.Role.TheVariants as role
use Rattle.net_elements.specs.Table.{word_of}
use Rattle.pnml_write.specs.Canon.{attribute_id}
use Rattle.pnml_write.proofs.Texts.{after_id, two_pieces}
use Rattle.pnml_write.proofs.counts.put_plain_transition.Goals as goal

pub returns : goal.returns
returns c =
    let old = c.args.writer.now in
    let id = c.args.id.now in
    two_pieces old (start_text (word_of role.Transition) ++ attribute_text (attribute_id id)) (codes "/>\n") (c.in_ok-put_id.ensures ∙ append_assoc old (start_text (word_of role.Transition)) (attribute_text (attribute_id id))) c.in_ok-end_empty.ensures
    ∙ ap (λ text. old ++ text) (after_id role.Transition id [])
