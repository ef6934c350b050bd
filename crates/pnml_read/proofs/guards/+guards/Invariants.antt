use Rattle.std.proofs.Common.{◌≡◌, ◌++◌, drop, map}
use Rattle.pnml_read.specs.Nets.{child, given, kept}
use Rattle.pnml_read.proofs.guards.+guards.Given as goal

abbrev pub invariant-guard_in-loop-element : goal.invariant-guard_in-loop-element
invariant-guard_in-loop-element l = child l.role l.before (map given (drop l.element-index l.children)) ≡ child l.role l.number (map given l.children)

abbrev pub invariant-guards_in-loop-element : goal.invariant-guards_in-loop-element
invariant-guards_in-loop-element l =
    l.guards ++ map (λ c. c.guard) (kept l.role (map given (drop l.element-index l.children))) ≡ map (λ c. c.guard) (kept l.role (map given l.children))
