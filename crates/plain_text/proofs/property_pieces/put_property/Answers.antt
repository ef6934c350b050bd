use Rattle.doc_model.specs.Texts.{first_line}
use Rattle.std.proofs.Common.{◌++◌, ap, sym, ◌∙◌, refl}
use Rattle.plain_text.specs.Markup.{leaf_text}
use Rattle.plain_text.specs.PropertyParts.{formula_text}
use Rattle.plain_text.proofs.PropertyTrees.{property_text-parts}
use Rattle.plain_text.proofs.Pieces.{after}
use Rattle.plain_text.proofs.property_pieces.put_property.Goals as goal

pub returns : goal.returns
unfolding first_line
returns c =
    let start = c.args.comparison.now in
    let value = c.args.property.now in
    let to_id = after start _ _ (leaf_text _ value.id) c.in_ok-put.ensures c.in_ok-put_leaf.ensures (ap (leaf_text _) c.bytes.ensures) in
    let to_formula = after start _ _ (formula_text value.left value.right) to_id c.in_ok-put_formula.ensures refl in
    after start _ _ _ (after start _ _ _ to_formula c.in_ok-put-2.ensures refl) c.in_ok-put-3.ensures refl
    ∙ ap (λ text. start ++ text) (sym (property_text-parts value))
