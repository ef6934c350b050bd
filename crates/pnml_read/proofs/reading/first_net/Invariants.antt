use Rattle.std.proofs.Common.{◌≡◌, codes, drop}
use Rattle.std.specs.List.{find}
use Rattle.std.specs.Str.{bytes_eq}
use Rattle.doc_model.specs.declared.tree.Element.{out-Element}
use Rattle.pnml_read.proofs.reading.first_net.Given as goal

abbrev pub invariant-loop-at : goal.invariant-loop-at
invariant-loop-at l =
    (l.children ≡ l.fn.children)
    × (find (λ e. bytes_eq (out-Element e).name (codes "net")) (drop l.at l.fn.children) ≡ find (λ e. bytes_eq (out-Element e).name (codes "net")) l.fn.children)
