use Rattle.std.proofs.Common.{◌≡◌, ◌≤◌, ◌+◌, ◌*◌, true, drop}
use Rattle.multiset_terms.specs.Trees.{are_colours, tuple_place, tuple_size, readings}
use Rattle.multiset_terms.proofs.trees.+placing.Given as goal

-- the rest behind what was read gives the whole, and is in range
abbrev pub invariant-place_of_tuple-loop-part : goal.invariant-place_of_tuple-loop-part
invariant-place_of_tuple-loop-part l = record {
  place : tuple_place l.at (readings l.binding (drop l.part-index l.parts)) ≡ tuple_place 0 (readings l.binding l.parts);
  colours : are_colours (readings l.binding (drop l.part-index l.parts)) ≡ true;
  within : (l.at + 1) * tuple_size (readings l.binding (drop l.part-index l.parts)) ≤ tuple_size (readings l.binding l.parts);
}
