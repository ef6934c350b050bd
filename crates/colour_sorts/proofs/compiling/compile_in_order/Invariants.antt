use Rattle.std.proofs.Common.{◌≡◌, ℕ, ◌<◌, Some}
use Rattle.std.specs.List.{slice_get}
use Rattle.colour_sorts.specs.Compiling.{IsCompiledAt, IsCompiling}
use Rattle.colour_sorts.proofs.compiling.compile_in_order.Given as goal

abbrev pub invariant-loop-at : goal.invariant-loop-at
invariant-loop-at l = record {
  compiled : IsCompiling l.sorts l.compiled;
  done : (k at : ℕ) → k < l.at-index → slice_get l.order k ≡ Some at → IsCompiledAt l.compiled at;
}
