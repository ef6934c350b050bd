use Rattle.std.proofs.Common.{◌≡◌, drop, map}
use Rattle.net_elements.specs.declared.roles.Role.TheVariants as role
use Rattle.pnml_read.specs.Nets.{child, given}
use Rattle.pnml_read.proofs.terms.range_in.Given as goal

abbrev pub invariant-loop-element : goal.invariant-loop-element
invariant-loop-element l =
    child role.FiniteIntRangeConstant 0 (map given (drop l.element-index l.children)) ≡ child role.FiniteIntRangeConstant 0 (map given l.children)
