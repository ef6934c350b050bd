use Rattle.std.proofs.Common.{◌≡◌, Some, map, sym, ap, ◌∙◌}
use Rattle.doc_model.specs.declared.tree.Element.{out-Element}
use Rattle.mcc_model.specs.declared.formulas.Count.TheVariants.{Tokens}
use Rattle.mcc_model.specs.declared.parts.Part.TheVariants.{TokensCount}
use Rattle.mcc_model.specs.Table.{part_named}
use Rattle.mcc_model.specs.Goals.{count_parts, node_of}
use Rattle.mcc_formula.specs.Layouts.{nodes_of}
use Rattle.mcc_formula.proofs.Given.{given_count, nodes_given}
use Rattle.mcc_formula.proofs.numbers.count_of.Goals as goal

pub returns-in_ok-places-in-Some-TokensCount : goal.returns-in_ok-places-in-Some-TokensCount
returns-in_ok-places-in-Some-TokensCount c =
    let layout = c.args.layout.now in
    let e = c.args.element.now in
    let named : part_named count_parts (out-Element e).name ≡ Some TokensCount =
    sym (c.part_named.ensures ∙ ap (part_named count_parts) c.bytes.ensures) ∙ c.in-Some-TokensCount.is ∙ ap Some c.in-Some-TokensCount.field-0-is in
    ap Tokens (c.in_ok-places-in-Some-TokensCount.ensures
    ∙ ap (λ names. map (λ d. node_of names (out-Element d).text) c.as_slice.result.now) c.places.ensures
    ∙ ap (map (λ d. node_of layout.places (out-Element d).text)) c.as_slice.ensures
    ∙ nodes_given (nodes_of layout) layout.places (out-Element e).children)
    ∙ sym (given_count (nodes_of layout) e (Some TokensCount) named)
