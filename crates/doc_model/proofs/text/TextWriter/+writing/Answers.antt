use Rattle.std.proofs.Common.{◌++◌, ◌<◌, sym, ◌∙◌, ap, length, arith}
use Rattle.std.proofs.lemmas.Bool.{eqb-false}
use Rattle.std.specs.List.{flat_map}
use Rattle.doc_model.specs.declared.tree.Element.{out-Element}
use Rattle.doc_model.specs.Texts.{text_of, start_text, attribute_text, end_text}
use Rattle.doc_model.proofs.TextLaws.{text_of-out}
use Rattle.doc_model.proofs.Writing.{content-children, five_pieces}
use Rattle.doc_model.proofs.text.TextWriter.+writing.Goals as goal

pub element-returns : goal.element-returns
element-returns t c =
    let e = out-Element c.args.element.now in
    let old = c.args.self.now in
    let children = c.as_slice-children in
    let some : 0 < length children.result.now = omega (arith, eqb-false (length children.result.now) 0 (sym c.is_empty.ensures ∙ c.if-is_empty.false)) in
    five_pieces old (start_text e.name) (flat_map attribute_text e.attributes) _ (flat_map text_of e.children) (end_text e.name)
    (c.in_ok-start.ensures ∙ ap (λ name. old ++ start_text name) c.bytes.ensures)
    (c.in_ok-attributes.ensures ∙ ap (λ attributes. c.start.new.self ++ flat_map attribute_text attributes) c.as_slice.ensures)
    c.in_ok-end_start.ensures
    (c.in_ok-children.ensures ∙ ap (λ es. c.end_start.new.self ++ flat_map text_of es) children.ensures)
    (c.in_ok-end.ensures ∙ ap (λ name. c.children.new.self ++ end_text name) c.bytes-2.ensures)
    ∙ ap (λ content. old ++ (start_text e.name ++ flat_map attribute_text e.attributes ++ content)) (sym (content-children e.name e.children e.text (omega (arith, some, ap length children.ensures))))
    ∙ ap (λ text. old ++ text) (sym (text_of-out c.args.element.now))
