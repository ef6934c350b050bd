use Rattle.std.proofs.Common.{◌≡◌, map, length}
use Rattle.std.specs.List.{All, range_with_len}
use Rattle.multiset_terms.specs.Standing.{compiled_parts}
use Rattle.guard_walks.specs.Testing.{IsTest}
use Rattle.guard_walks.specs.Walks.{all_sizes, is_part_true_at}
use Rattle.guard_walks.proofs.making.tests_of.Given as goal

abbrev pub invariant-loop-at : goal.invariant-loop-at
invariant-loop-at l = record {
  each : All (IsTest (is_part_true_at l.signature l.guard) (length (compiled_parts l.guard)) (all_sizes l.signature) l.variables) l.tests.items;
  parts : map (λ t. t.part) l.tests.items ≡ range_with_len 0 l.at;
}
