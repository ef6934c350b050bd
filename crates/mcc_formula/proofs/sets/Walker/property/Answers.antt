use Rattle.std.proofs.Common.{◌≡◌, true, [], Err, sym, ap, ◌∙◌}
use Rattle.std.proofs.lemmas.Result.{err_from_is_err_and}
use Rattle.doc_tree.specs.declared.faults.Fault.TheVariants.{MissingChild}
use Rattle.net_elements.specs.declared.faults.ReadFault.TheVariants.{Structure}
use Rattle.net_elements.specs.Rules.{broken, note_if}
use Rattle.net_elements.specs.Walking.{found}
use Rattle.net_elements.proofs.Walks.{same_end, stops, then_finds}
use Rattle.mcc_model.specs.Files.{at_of, children_of, is_short, parts_notes}
use Rattle.mcc_formula.proofs.sets.Walker.property.Goals as goal

pub returns-in_err-parts : goal.returns-in_err-parts
returns-in_err-parts c =
    let p = err_from_is_err_and c.from_residual.result c.from_residual.ensures.1 in
    let old = c.args.self.now in
    let last = c.parts.new.self in
    let e = c.args.element.now in
    let stop = c.in_err-parts.field-0.0 in
    rw (p.1, p.2)
    (stops old last last (parts_notes [] (children_of e)) (note_if (is_short (children_of e)) (broken (at_of e) MissingChild)) stop
    (same_end last (Err stop) _ _ (ap (λ es. found old (parts_notes [] es)) c.as_slice.ensures) c.in_err-parts.ensures))

pub returns-then-is_short : goal.returns-then-is_short
returns-then-is_short c =
    let old = c.args.self.now in
    let middle = c.parts.new.self in
    let e = c.args.element.now in
    let last = broken (at_of e) MissingChild in
    let short : is_short (children_of e) ≡ true = sym (ap is_short c.as_slice-2.ensures) ∙ sym c.is_short.ensures ∙ c.if-is_short.true in
    rw c.broken.ensures
    (then_finds old middle middle (parts_notes [] (children_of e)) (note_if (is_short (children_of e)) last) (Err (Structure (at_of e) MissingChild))
    (sym (ap (λ es. found old (parts_notes [] es)) c.as_slice.ensures) ∙ c.in_ok-parts.ensures)
    (ap (λ b. found middle (note_if b last)) short))
