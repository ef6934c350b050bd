use Rattle.std.proofs.Common.{◌≡◌, ◌++◌, ◌∷◌, [], suc, sym, subst, add-one}
use Rattle.doc_tree.specs.Fed.{HasReadBy}
use Rattle.doc_tree.specs.Machine.{state, next}
use Rattle.doc_tree.proofs.Answering.{byte_answer}
use Rattle.doc_tree.proofs.reader.Reader.step.Goals as goal

pub returns-in-Ok-clause-read : goal.returns-in-Ok-clause-read
returns-in-Ok-clause-read c b h =
    let old = c.args.self.now in
    let before = subst (λ f. HasReadBy f (state old.place old.part old.opens old.root) old.count b) c.requires.live h in
    let to : state c.advance.new.place c.in-Ok.part c.advance.new.opens c.advance.new.root ≡ next (state old.place old.part old.opens old.root) old.count c.args.byte = c.in-Ok.ensures in
    let behind = state c.advance.new.place c.in-Ok.part c.advance.new.opens c.advance.new.root in
    let bytes = b ++ c.args.byte ∷ [] in
    subst (λ n. HasReadBy c.fault_of-self.result behind n bytes) (sym (add-one old.count))
    (subst (λ f. HasReadBy f behind (suc old.count) bytes) (sym c.fault_of-self.ensures)
    (byte_answer b c.args.byte old.count (state old.place old.part old.opens old.root) c.advance.new.place c.in-Ok.part c.advance.new.opens c.advance.new.root before to))
