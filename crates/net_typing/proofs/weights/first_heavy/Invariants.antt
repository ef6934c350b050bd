use Rattle.std.proofs.Common.{◌≡◌, ◌<◌, ◌^◌, ℕ}
use Rattle.std.specs.BTreeMap as tree
use Rattle.std.specs.Option.{unwrap_or}
use Rattle.std.specs.Ordering.{nat_cmp}
use Rattle.net_typing.specs.Weights.{AreWithinWeight, weight_among}
use Rattle.net_typing.proofs.weights.first_heavy.Given as goal

abbrev pub invariant-loop-at : goal.invariant-loop-at
invariant-loop-at l = record {
  held : (key : ℕ) → unwrap_or (tree.get nat_cmp l.weights key) 0 ≡ weight_among l.arcs l.at key;
  light : (key : ℕ) → weight_among l.arcs l.at key < 2 ^ 63;
  within : AreWithinWeight l.arcs l.at;
}
