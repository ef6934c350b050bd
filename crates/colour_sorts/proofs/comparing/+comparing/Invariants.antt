use Rattle.std.proofs.Common.{◌≡◌, map, drop, length}
use Rattle.colour_sorts.specs.Comparing.{all_same, is_same_sort}
use Rattle.colour_sorts.proofs.comparing.+comparing.Given as goal

-- the rest decides
abbrev pub invariant-same_sorts-loop-at : goal.invariant-same_sorts-loop-at
invariant-same_sorts-loop-at l = record {
  whole : all_same (map is_same_sort (drop l.at l.first)) (drop l.at l.second) ≡ all_same (map is_same_sort l.first) l.second;
  long : length l.first ≡ length l.second;
}
