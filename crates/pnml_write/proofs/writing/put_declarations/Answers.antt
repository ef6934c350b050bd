use Rattle.std.proofs.Common.{◌≡◌, ◌<◌, ◌++◌, length, ap, sym, ◌∙◌, arith}
use Rattle.std.proofs.lemmas.Bool.{eqb-false}
use Rattle.std.proofs.lemmas.Result.{on_ok_weaker}
use Rattle.pnml_write.specs.Canon.{declared_trees}
use Rattle.pnml_write.proofs.Texts.{declaration_text}
use Rattle.pnml_write.proofs.writing.put_declarations.Goals as goal

pub returns : goal.returns
returns c =
    let trees = c.in_ok-trees.trees in
    let here : 0 < length c.as_slice.result.now = omega (arith, eqb-false (length c.as_slice.result.now) 0 (sym c.is_empty.ensures ∙ c.if-is_empty.false)) in
    let some : 0 < length trees = omega (arith, here, ap length c.as_slice.ensures) in
    on_ok_weaker c.element.result
    (λ is. is ∙ ap (λ text. c.args.writer.now ++ text)
    (declaration_text trees (declared_trees c.args.net.now) c.in_ok-list.list c.in_ok-structure.structure c.in_ok-around.field-0 some
    c.in_ok-trees.ensures c.in_ok-list.ensures c.in_ok-structure.ensures c.in_ok-around.ensures))
    c.element.ensures
