use Rattle.std.proofs.Common.{◌≡◌, ◌-◌, ◌*◌, ◌^◌, ◌≤◌, drop, min}
use Rattle.bindings.specs.Listed.{product}
use Rattle.bindings.proofs.numbers.count_of.Given as goal

abbrev pub invariant-loop-size : goal.invariant-loop-size
invariant-loop-size l = record {
  within : l.count ≤ 2 ^ 64 - 1;
  rest : min (l.count * product (drop l.size-index l.sizes)) (2 ^ 64 - 1) ≡ min (product l.sizes) (2 ^ 64 - 1);
}
