use Rattle.std.proofs.Common.{◌≡◌, ◌++◌, drop, map}
use Rattle.mcc_model.specs.Goals.{given}
use Rattle.mcc_formula.specs.Layouts.{nodes_of}
use Rattle.mcc_formula.proofs.formulas.+formulas.Given as goal

abbrev pub invariant-formulas_in-loop-child : goal.invariant-formulas_in-loop-child
invariant-formulas_in-loop-child l =
    l.formulas ++ map (λ c. c.formula) (map (given (nodes_of l.layout)) (drop l.child-index l.children)) ≡ map (λ c. c.formula) (map (given (nodes_of l.layout)) l.children)
