use Rattle.std.proofs.Common.{◌≡◌, ◌<◌, [], ◌∷◌, ◌++◌, length, codes, ap, sym, ◌∙◌, arith}
use Rattle.std.proofs.lemmas.Grind.{flat_map-append}
use Rattle.std.proofs.lemmas.List.{length-append}
use Rattle.std.specs.List.{flat_map}
use Rattle.doc_model.specs.Texts.{attribute_text, end_text, start_text, text_of}
use Rattle.doc_model.specs.Trees.{attribute}
use Rattle.net_elements.specs.declared.roles.Role.TheVariants as role
use Rattle.net_elements.specs.Table.{word_of}
use Rattle.pnml_write.specs.Canon.{attribute_id, declaration_trees, declared_trees, kind_text, page_tree}
use Rattle.pnml_write.proofs.Texts.{branch_text, two_attributes}
use Rattle.pnml_write.proofs.writing.put_net.Goals as goal

pub returns : goal.returns
returns c =
    let old = c.args.writer.now in
    let net = c.args.net.now in
    let id = attribute_id net.id in
    let kind = attribute (codes "type") (kind_text net.kind) in
    let front = declaration_trees (declared_trees net) in
    let page = page_tree net in
    let some : 0 < length (front ++ page ∷ []) = omega (arith, length-append front (page ∷ [])) in
    two_attributes old (start_text (word_of role.Net)) (attribute_text id) (attribute_text kind) (codes ">\n") (flat_map text_of front) (text_of page) (end_text (word_of role.Net))
    (c.in_ok-start.ensures ∙ ap (λ name. old ++ start_text name) c.word_of.ensures)
    (c.in_ok-attribute.ensures ∙ ap (λ value. c.start.new.self ++ attribute_text (attribute (codes "id") value)) c.bytes.ensures)
    (c.in_ok-attribute-2.ensures ∙ ap (λ value. c.attribute.new.self ++ attribute_text (attribute (codes "type") value)) c.kind_text.ensures)
    c.in_ok-end_start.ensures
    c.in_ok-put_declarations.ensures
    c.in_ok-put_page.ensures
    (c.in_ok-end.ensures ∙ ap (λ name. c.put_page.new.writer ++ end_text name) c.word_of-2.ensures)
    ∙ ap (λ trees. old ++ (start_text (word_of role.Net) ++ flat_map attribute_text (id ∷ kind ∷ []) ++ (codes ">\n" ++ trees ++ end_text (word_of role.Net))))
    (sym (flat_map-append text_of front (page ∷ [])))
    ∙ ap (λ text. old ++ text) (sym (branch_text role.Net (id ∷ kind ∷ []) (front ++ page ∷ []) some))
