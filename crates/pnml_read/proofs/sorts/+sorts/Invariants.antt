use Rattle.std.proofs.Common.{◌≡◌, ◌++◌, drop, map}
use Rattle.net_elements.specs.declared.roles.Role.TheVariants as role
use Rattle.pnml_read.specs.Nets.{child, given, kept}
use Rattle.pnml_read.proofs.sorts.+sorts.Given as goal

abbrev pub invariant-sort_in-loop-element : goal.invariant-sort_in-loop-element
invariant-sort_in-loop-element l = child l.role 0 (map given (drop l.element-index l.children)) ≡ child l.role 0 (map given l.children)

abbrev pub invariant-sorts_in-loop-element : goal.invariant-sorts_in-loop-element
invariant-sorts_in-loop-element l =
    l.sorts ++ map (λ c. c.sort) (kept role.ProductSort (map given (drop l.element-index l.children))) ≡ map (λ c. c.sort) (kept role.ProductSort (map given l.children))
