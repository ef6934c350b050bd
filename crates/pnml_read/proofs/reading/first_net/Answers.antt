use Rattle.std.proofs.Common.{◌≡◌, sym, subst, ◌∙◌, true, Some, codes, get_or}
use Rattle.std.proofs.lemmas.Option.{get_or_from_slice_get}
use Rattle.std.specs.List.{slice_get}
use Rattle.std.specs.Str.{bytes_eq}
use Rattle.doc_model.specs.declared.tree.Element.{out-Element}
use Rattle.pnml_read.proofs.TakenLists.{found_at}
use Rattle.pnml_read.proofs.reading.first_net.Goals as goal

pub returns-then-is_net : goal.returns-then-is_net
returns-then-is_net c =
    let there : slice_get c.args.children c.loop-at.at ≡ Some c.remove.result = subst (λ cs. slice_get cs c.loop-at.at ≡ Some c.remove.result) c.loop-at.invariant.0 c.remove.ensures.item in
    let same : c.index-as_slice-at.result ≡ c.remove.result =
    c.index-as_slice-at.is
    ∙ subst (λ cs. get_or cs c.loop-at.at c.index-as_slice-at.result ≡ c.remove.result) (sym c.as_slice.ensures) (get_or_from_slice_get c.loop-at.children c.loop-at.at c.remove.result c.index-as_slice-at.result c.remove.ensures.item) in
    let named : bytes_eq (out-Element c.remove.result).name (codes "net") ≡ true = subst (λ e. bytes_eq (out-Element e).name (codes "net") ≡ true) same (sym c.is_net.ensures ∙ c.if-is_net.true) in
    sym (found_at (λ e. bytes_eq (out-Element e).name (codes "net")) c.args.children c.loop-at.at c.remove.result there named) ∙ c.loop-at.invariant.1
