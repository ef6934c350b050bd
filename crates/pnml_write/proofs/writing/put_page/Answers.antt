use Rattle.std.proofs.Common.{◌≡◌, [], ◌∷◌, ◌++◌, codes, ap, sym, ◌∙◌}
use Rattle.std.specs.List.{flat_map}
use Rattle.doc_model.specs.Texts.{attribute_text, end_text, start_text, text_of}
use Rattle.net_elements.specs.declared.roles.Role.TheVariants as role
use Rattle.net_elements.specs.Table.{word_of}
use Rattle.pnml_write.specs.Canon.{attribute_id, branch, node_trees}
use Rattle.pnml_write.proofs.Texts.{attribute_alone, branch_text, leaf_text, one_attribute}
use Rattle.pnml_write.proofs.writing.put_page.Goals as goal

pub returns-then-not-has_nodes : goal.returns-then-not-has_nodes
returns-then-not-has_nodes c =
    let old = c.args.writer.now in
    let id = attribute_id (codes "page") in
    attribute_alone old (start_text (word_of role.Page)) (attribute_text id) (codes "/>\n")
    (c.in_ok-start.ensures ∙ ap (λ name. old ++ start_text name) c.word_of.ensures)
    c.in_ok-attribute.ensures
    c.in_ok-end_empty.ensures
    ∙ ap (λ text. old ++ text) (sym (ap (λ trees. text_of (branch role.Page (id ∷ []) trees)) c.if-not-has_nodes.ensures ∙ leaf_text role.Page (id ∷ [])))

pub returns : goal.returns
returns c =
    let old = c.args.writer.now in
    let id = attribute_id (codes "page") in
    one_attribute old (start_text (word_of role.Page)) (attribute_text id) (codes ">\n") (flat_map text_of (node_trees c.args.net.now)) (end_text (word_of role.Page))
    (c.in_ok-start.ensures ∙ ap (λ name. old ++ start_text name) c.word_of.ensures)
    c.in_ok-attribute.ensures
    c.in_ok-end_start.ensures
    c.in_ok-put_nodes.ensures
    (c.in_ok-end.ensures ∙ ap (λ name. c.put_nodes.new.writer ++ end_text name) c.word_of-2.ensures)
    ∙ ap (λ text. old ++ text) (sym (branch_text role.Page (id ∷ []) (node_trees c.args.net.now) c.if-not-has_nodes.ensures))
