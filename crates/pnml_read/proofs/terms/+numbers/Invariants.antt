use Rattle.std.proofs.Common.{◌≡◌, drop, map}
use Rattle.pnml_read.specs.Nets.{child, given}
use Rattle.pnml_read.proofs.terms.+numbers.Given as goal

abbrev pub invariant-number_in-loop-element : goal.invariant-number_in-loop-element
invariant-number_in-loop-element l = child l.role 0 (map given (drop l.element-index l.children)) ≡ child l.role 0 (map given l.children)
