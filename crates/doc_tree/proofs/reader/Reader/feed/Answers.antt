use Rattle.std.proofs.Common.{◌++◌, Some, refl, sym, subst}
use Rattle.doc_tree.specs.Fed.{HasReadBy}
use Rattle.doc_tree.specs.Machine.{state}
use Rattle.doc_tree.proofs.Answering.{read_stays}
use Rattle.doc_tree.proofs.reader.Reader.feed.Goals as goal

pub returns-in-Some-clause-read : goal.returns-in-Some-clause-read
returns-in-Some-clause-read c b h =
    let s = c.args.self.now in
    let st = state s.place s.part s.opens s.root in
    subst (λ f. HasReadBy f st s.count (b ++ c.args.piece.now)) (sym c.in-Some.is)
    (read_stays (Some c.in-Some.fault) st s.count b c.args.piece.now refl (subst (λ f. HasReadBy f st s.count b) c.in-Some.is h))

pub returns-in-Some-clause-answer : goal.returns-in-Some-clause-answer
returns-in-Some-clause-answer c b h =
    let s = c.args.self.now in
    let st = state s.place s.part s.opens s.root in
    read_stays (Some c.in-Some.fault) st s.count b c.args.piece.now refl (subst (λ f. HasReadBy f st s.count b) c.in-Some.is h)

pub returns-in-None-fault-clause-answer : goal.returns-in-None-fault-clause-answer
returns-in-None-fault-clause-answer c b h =
    let s = c.read.new.self in
    let behind = subst (λ f. HasReadBy f (state s.place s.part s.opens s.root) s.count (b ++ c.args.piece.now)) c.in-None-fault.is (c.read.ensures.read b h) in
    behind.2
