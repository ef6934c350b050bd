use Rattle.std.proofs.Common.{◌≡◌, drop}
use Rattle.std.specs.List.{list_any}
use Rattle.mcc_model.specs.Files.{has_name}
use Rattle.mcc_formula.proofs.sets.any_has_name.Given as goal

abbrev pub invariant-loop-element : goal.invariant-loop-element
invariant-loop-element l = list_any (has_name l.name) (drop l.element-index l.elements) ≡ list_any (has_name l.name) l.elements
