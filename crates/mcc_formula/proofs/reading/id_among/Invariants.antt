use Rattle.std.proofs.Common.{◌≡◌, drop}
use Rattle.mcc_model.specs.Files.{id_among}
use Rattle.mcc_formula.proofs.reading.id_among.Given as goal

abbrev pub invariant-loop-child : goal.invariant-loop-child
invariant-loop-child l = id_among (drop l.child-index l.children) ≡ id_among l.children
