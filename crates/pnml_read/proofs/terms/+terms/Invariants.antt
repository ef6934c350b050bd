use Rattle.std.proofs.Common.{◌≡◌, ◌++◌, drop, map}
use Rattle.pnml_read.specs.Nets.{child, given, kept}
use Rattle.pnml_read.proofs.terms.+terms.Given as goal

abbrev pub invariant-term_in-loop-element : goal.invariant-term_in-loop-element
invariant-term_in-loop-element l = child l.role l.before (map given (drop l.element-index l.children)) ≡ child l.role l.number (map given l.children)

abbrev pub invariant-terms_in-loop-element : goal.invariant-terms_in-loop-element
invariant-terms_in-loop-element l =
    l.terms ++ map (λ c. c.term) (kept l.role (map given (drop l.element-index l.children))) ≡ map (λ c. c.term) (kept l.role (map given l.children))
