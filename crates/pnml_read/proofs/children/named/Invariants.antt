use Rattle.std.proofs.Common.{◌≡◌, drop}
use Rattle.pnml_read.specs.Parts.{named_element}
use Rattle.pnml_read.proofs.children.named.Given as goal

abbrev pub invariant-loop-element : goal.invariant-loop-element
invariant-loop-element l = named_element l.fn.role (drop l.element-index l.children) ≡ named_element l.fn.role l.children
