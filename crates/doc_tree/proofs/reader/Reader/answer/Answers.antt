use Rattle.std.proofs.Common.{sym, ◌∙◌, subst}
use Rattle.doc_tree.specs.Fed.{HasReadBy}
use Rattle.doc_tree.specs.Machine.{state}
use Rattle.doc_tree.proofs.Answering.{finish_fault, finish_tree, finish_short}
use Rattle.doc_tree.proofs.reader.Reader.answer.Goals as goal

pub returns-in-Some-clause-answer : goal.returns-in-Some-clause-answer
returns-in-Some-clause-answer c b h =
    let s = c.args.self.now in
    finish_fault c.in-Some.fault b (subst (λ f. HasReadBy f (state s.place s.part s.opens s.root) s.count b) c.in-Some.is h)

pub returns-in-Some-ended_of-clause-answer : goal.returns-in-Some-ended_of-clause-answer
returns-in-Some-ended_of-clause-answer c b h =
    let s = c.args.self.now in
    let st = state s.place s.part s.opens s.root in
    finish_tree st s.count b c.in-Some-ended_of.element (subst (λ f. HasReadBy f st s.count b) c.in-None.is h) (sym c.ended_of.ensures ∙ c.in-Some-ended_of.is)

pub returns-in-None-ended_of-clause-answer : goal.returns-in-None-ended_of-clause-answer
returns-in-None-ended_of-clause-answer c b h =
    let s = c.args.self.now in
    let st = state s.place s.part s.opens s.root in
    finish_short st s.count b (subst (λ f. HasReadBy f st s.count b) c.in-None.is h) (sym c.ended_of.ensures ∙ c.in-None-ended_of.is)
