use Rattle.std.proofs.Common.{◌≡◌, ◌++◌, drop, map}
use Rattle.pnml_write.specs.Canon.{variable_tree}
use Rattle.pnml_write.proofs.writing.add_variables.Given as goal

abbrev pub invariant-loop-variable : goal.invariant-loop-variable
invariant-loop-variable l = l.trees ++ map variable_tree (drop l.variable-index l.variables) ≡ l.fn.trees ++ map variable_tree l.variables
