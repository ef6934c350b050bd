use Rattle.std.proofs.Common.{◌≡◌, ◌≤◌, length, drop, get_or}
use Rattle.std.specs.List.{list_all}
use Rattle.colour_sorts.specs.declared.sorts.Sort.TheVariants as sort
use Rattle.colour_sorts.specs.Comparing.{is_same_sort}
use Rattle.multiset_terms.proofs.kinds.are_of_first.Given as goal

abbrev pub invariant-loop-at : goal.invariant-loop-at
invariant-loop-at l =
    (l.at ≤ length l.sorts)
    × (list_all (is_same_sort (get_or l.sorts 0 sort.Dot)) (drop l.at l.sorts) ≡ list_all (is_same_sort (get_or l.sorts 0 sort.Dot)) (drop 1 l.sorts))
