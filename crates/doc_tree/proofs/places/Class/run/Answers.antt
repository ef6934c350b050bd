use Rattle.std.proofs.Common.{◌≡◌, ◌∙◌, ap, sym, true, arith, take, get_or}
use Rattle.std.proofs.lemmas.List.{take_more}
use Rattle.doc_tree.specs.Characters.{all_bytes, class_test}
use Rattle.doc_tree.proofs.TakenRuns.{all_more}
use Rattle.doc_tree.proofs.places.Class.run.Goals as goal

pub loop-count-preserved : goal.loop-count-preserved
loop-count-preserved c =
    let bytes = c.args.bytes.now in
    let i = c.loop-count.count in
    let ok = class_test c.args.self in
    let is : ok (get_or bytes i 0) ≡ true = sym c.holds.ensures ∙ c.if-holds.true in
    (omega arith, ap (λ s. all_bytes ok s) (take_more bytes i 0 c.loop-count-test.true) ∙ all_more ok (take i bytes) (get_or bytes i 0) c.loop-count.invariant.1 is)
