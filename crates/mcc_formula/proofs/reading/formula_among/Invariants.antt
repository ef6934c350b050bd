use Rattle.std.proofs.Common.{◌≡◌, codes, find, length}
use Rattle.mcc_model.specs.Files.{has_name}
use Rattle.mcc_formula.proofs.Popped.{earlier}
use Rattle.mcc_formula.proofs.reading.formula_among.Given as goal

abbrev pub invariant-loop-child : goal.invariant-loop-child
invariant-loop-child l = earlier (find (has_name (codes "formula")) l.left) l.found ≡ find (has_name (codes "formula")) l.fn.children

abbrev pub decreases-loop-child : goal.decreases-loop-child
decreases-loop-child l = length l.left
