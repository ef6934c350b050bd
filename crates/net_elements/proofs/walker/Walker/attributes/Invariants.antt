use Rattle.std.proofs.Common.{◌≡◌, drop}
use Rattle.doc_model.specs.declared.tree.Element.{out-Element}
use Rattle.net_elements.specs.Rules.{attribute_notes}
use Rattle.net_elements.specs.Walking.{found}
use Rattle.net_elements.proofs.walker.Walker.attributes.Given as goal

abbrev pub invariant-loop-key : goal.invariant-loop-key
invariant-loop-key l =
    found l.self (attribute_notes (out-Element l.element).at (drop l.key-index l.keys) (out-Element l.element).attributes)
    ≡ found l.fn.self (attribute_notes (out-Element l.element).at l.keys (out-Element l.element).attributes)
