use Rattle.std.proofs.Common.{[], ◌++◌, codes, append_assoc, ap, sym, ◌∙◌}
use Rattle.std.specs.Fmt.{decimal}
use Rattle.doc_model.specs.Texts.{content_text, end_text, start_text}
use Rattle.net_elements.specs.declared.roles.Role.TheVariants as role
use Rattle.net_elements.specs.Table.{word_of}
use Rattle.pnml_write.proofs.Texts.{four_pieces, number_label}
use Rattle.pnml_write.proofs.counts.put_label.Goals as goal

pub returns : goal.returns
returns c =
    let old = c.args.writer.now in
    let label = c.args.label in
    four_pieces old (start_text (word_of label)) (codes ">\n") (start_text (word_of role.Text) ++ content_text (word_of role.Text) [] (decimal c.args.count)) (end_text (word_of label))
    (c.in_ok-start.ensures ∙ ap (λ name. old ++ start_text name) c.word_of.ensures)
    c.in_ok-end_start.ensures
    (c.in_ok-put_number.ensures ∙ append_assoc c.end_start.new.self (start_text (word_of role.Text)) (content_text (word_of role.Text) [] (decimal c.args.count)))
    (c.in_ok-end.ensures ∙ ap (λ name. c.put_number.new.writer ++ end_text name) c.word_of-2.ensures)
    ∙ ap (λ text. old ++ text) (sym (number_label label c.args.count))
