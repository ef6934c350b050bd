use Rattle.std.proofs.Common.{◌≡◌, ◌++◌, drop, map}
use Rattle.pnml_read.specs.Nets.{given, kept}
use Rattle.pnml_read.proofs.sorts.constants_in.Given as goal

abbrev pub invariant-loop-element : goal.invariant-loop-element
invariant-loop-element l = l.ids ++ map (λ c. c.id) (kept l.role (map given (drop l.element-index l.children))) ≡ map (λ c. c.id) (kept l.role (map given l.children))
