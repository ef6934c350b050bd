use Rattle.std.proofs.Common.{◌≡◌, ℕ, ◌-◌, List, ◌∙◌, sym, ap, drop, length, take, length-drop}
use Rattle.std.proofs.Math.Seq.{take-length}
use Rattle.doc_model.specs.declared.tree.Attribute.{Attribute}
use Rattle.doc_tree.specs.Documents.{is_fresh}
use Rattle.doc_tree.proofs.Fresh.{known_taken, known_fresh}
use Rattle.doc_tree.proofs.attributes.is_fresh_beside.Goals as goal

rest : (ats : List Attribute) (n m : ℕ) → n ≡ m → take (length ats - n) (drop n ats) ≡ drop m ats
rest ats n m e = ap (λ (k : ℕ). take k (drop n ats)) (sym (length-drop n ats)) ∙ take-length (drop n ats) ∙ ap (λ (k : ℕ). drop k ats) e

pub returns-in-Some : goal.returns-in-Some
returns-in-Some c = sym (known_taken c.args.name.now c.args.known.now c.args.attributes.now c.in-Some.field-0 c.requires (sym c.find.ensures ∙ c.in-Some.is))

pub returns-in-None : goal.returns-in-None
returns-in-None c =
    let known = c.args.known.now in
    let name = c.args.name.now in
    let ats = c.args.attributes.now in
    c.is_fresh.ensures ∙ ap (is_fresh name) (rest ats c.count.result (length known) c.count.ensures)
    ∙ sym (known_fresh name known ats c.requires (sym c.find.ensures ∙ c.in-None.is))
