-- The search is by the terms' places, which rise.
use Rattle.std.proofs.Common.{rules, FitsSigned, w64, ◌∙◌, ap}
use mir.Facts.{to_z-of_z}
use Rattle.std.proofs.lemmas.List.Sorted.{answers_always}
use Rattle.linear_cert.specs.Sparse.{SparseForm, coefficient_in}
use Rattle.linear_cert.proofs.Searches.{coefficient-found, coefficient-missing}
use Rattle.linear_cert.proofs.forms.Form.coefficient.Goals as goal

pub returns-in-Ok : goal.returns-in-Ok
returns-in-Ok c =
    let found = rw c.deref.ensures.value at (c.in-Ok.ensures.position (λ y. y.place) (answers_always _ _ _ (λ f a r g called. search rules))) in
    let fits : FitsSigned w64 c.index.result.now.value = search rules in
    let is = coefficient-found c.args.place c.self.inside.terms.items c.in-Ok.found c.index.result.now c.self.invariant.rising (search (rules, c.in-Ok.ensures.bound)) c.index.ensures (found _) in
    simp to_z-of_z (is ∙ ap (λ (f : SparseForm). coefficient_in f.terms c.args.place) c.self.view_is)

pub returns-in-Err : goal.returns-in-Err
returns-in-Err c =
    let missing = rw c.deref.ensures.value at (c.in-Err.ensures.position (λ y. y.place) (answers_always _ _ _ (λ f a r g called. search rules))) in
    coefficient-missing c.args.place c.self.inside.terms.items c.in-Err.field-0 c.self.invariant.rising missing ∙ ap (λ (f : SparseForm). coefficient_in f.terms c.args.place) c.self.view_is
