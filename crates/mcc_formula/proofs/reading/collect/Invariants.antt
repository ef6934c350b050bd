use Rattle.std.proofs.Common.{◌≡◌, ◌<◌, ◌-◌, ◌^◌, ◌++◌, length, reverse}
use Rattle.std.specs.List.{flat_map}
use Rattle.mcc_model.specs.Files.{property_in}
use Rattle.mcc_formula.proofs.reading.collect.Given as goal

abbrev pub invariant-loop-child : goal.invariant-loop-child
invariant-loop-child l =
    (flat_map property_in l.left ++ reverse l.list.items ≡ flat_map property_in l.fn.children) × (length l.list.items < 2 ^ 32 - 1)

abbrev pub decreases-loop-child : goal.decreases-loop-child
decreases-loop-child l = length l.left
