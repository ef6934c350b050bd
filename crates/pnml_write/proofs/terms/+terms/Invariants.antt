use Rattle.std.proofs.Common.{◌≡◌, map, take}
use Rattle.pnml_write.specs.Canon.{part, term_tree}
use Rattle.pnml_write.proofs.terms.+terms.Given as goal

abbrev pub invariant-around_parts-loop-term : goal.invariant-around_parts-loop-term
invariant-around_parts-loop-term l = l.trees ≡ map (λ t. part (term_tree t)) (take l.term-index l.terms)
