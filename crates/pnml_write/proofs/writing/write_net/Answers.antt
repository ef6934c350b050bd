use Rattle.std.proofs.Common.{◌≡◌, [], ◌∷◌, ◌++◌, codes, ap, sym, ◌∙◌, arith}
use Rattle.doc_model.specs.Texts.{attribute_text, end_text, first_line, start_text, text_of}
use Rattle.doc_model.specs.Trees.{attribute}
use Rattle.net_elements.specs.declared.roles.Role.TheVariants as role
use Rattle.net_elements.specs.Table.{word_of}
use Rattle.pnml_write.specs.Canon.{net_tree}
use Rattle.pnml_write.proofs.Texts.{branch_text, document_pieces}
use Rattle.pnml_write.proofs.writing.write_net.Goals as goal

pub returns : goal.returns
returns c =
    let space = attribute (codes "xmlns") (codes "http://www.pnml.org/version-2009/grammar/pnml") in
    let net = net_tree c.args.net.now in
    c.into_bytes.ensures
    ∙ document_pieces first_line (start_text (word_of role.Pnml)) (attribute_text space) (codes ">\n") (text_of net) (end_text (word_of role.Pnml))
    c.new-writer.ensures
    c.in_ok-first_line.ensures
    (c.in_ok-start.ensures ∙ ap (λ name. c.first_line.new.self ++ start_text name) c.word_of.ensures)
    c.in_ok-attribute.ensures
    c.in_ok-end_start.ensures
    c.in_ok-put_net.ensures
    (c.in_ok-end.ensures ∙ ap (λ name. c.put_net.new.writer ++ end_text name) c.word_of-2.ensures)
    ∙ ap (λ text. first_line ++ text) (sym (branch_text role.Pnml (space ∷ []) (net ∷ []) (omega arith)))
