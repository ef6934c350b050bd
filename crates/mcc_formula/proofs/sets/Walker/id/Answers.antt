use Rattle.std.proofs.Common.{Err, sym, ap, ◌∙◌}
use Rattle.std.proofs.lemmas.Result.{err_from_is_err_and}
use Rattle.net_elements.specs.Rules.{trimmed}
use Rattle.net_elements.specs.Walking.{found}
use Rattle.net_elements.proofs.Walks.{same_end, stops, then_finds}
use Rattle.mcc_model.specs.Files.{at_of, children_of, own_text, refused, text_notes}
use Rattle.mcc_formula.proofs.sets.Walker.id.Goals as goal

pub returns-in_err-refused : goal.returns-in_err-refused
returns-in_err-refused c =
    let p = err_from_is_err_and c.from_residual.result c.from_residual.ensures.1 in
    let old = c.args.self.now in
    let e = c.args.element.now in
    let stop = c.in_err-refused.field-0.0 in
    rw (p.1, p.2)
    (stops old old old (refused (children_of e)) (text_notes (at_of e) (own_text e)) stop
    (same_end old (Err stop) _ _ (ap (λ es. found old (refused es)) c.as_slice.ensures) (c.in_err-refused.ensures old)))

pub returns : goal.returns
returns c =
    let old = c.args.self.now in
    let e = c.args.element.now in
    let last = c.text.new.self in
    then_finds old old last (refused (children_of e)) (text_notes (at_of e) (own_text e)) c.text.result
    (sym (ap (λ es. found old (refused es)) c.as_slice.ensures) ∙ c.in_ok-refused.ensures old)
    (same_end last c.text.result _ _ (ap (λ t. found old (text_notes (at_of e) t)) (c.trimmed.ensures ∙ ap trimmed c.bytes.ensures)) c.text.ensures)
