use Rattle.std.proofs.Common.{◌≡◌, ◌∙◌, ap, sym, true, arith, take, get_or}
use Rattle.std.proofs.lemmas.List.{take_more}
use Rattle.doc_tree.specs.Characters.{all_bytes, is_name_byte}
use Rattle.doc_tree.proofs.TakenRuns.{all_more}
use Rattle.doc_tree.proofs.runs.name_run.Goals as goal

pub loop-count-preserved : goal.loop-count-preserved
loop-count-preserved c =
    let bytes = c.args.bytes.now in
    let i = c.loop-count.count in
    let is : is_name_byte (get_or bytes i 0) ≡ true = sym c.is_name_byte.ensures ∙ c.if-is_name_byte.true in
    (omega arith, ap (λ s. all_bytes is_name_byte s) (take_more bytes i 0 c.loop-count-test.true) ∙ all_more is_name_byte (take i bytes) (get_or bytes i 0) c.loop-count.invariant.1 is)
