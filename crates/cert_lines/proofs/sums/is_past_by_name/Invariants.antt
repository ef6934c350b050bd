use Rattle.std.proofs.Common.{◌≡◌, ◌<◌, ◌^◌, List, ℕ, map, take}
use Rattle.std.specs.Str.{bytes_eq}
use Rattle.indexmap.specs.IndexMap.{get_by}
use Rattle.cert_lines.specs.Sums.{or_zero, sum_on}
use Rattle.cert_lines.proofs.sums.is_past_by_name.Given as goal

abbrev pub invariant-loop-item : goal.invariant-loop-item
invariant-loop-item g l = (q : List ℕ) → (or_zero (get_by (λ key. bytes_eq q key.now) l.sums) ≡ sum_on q (take l.item-index (map g.T.Named.named_amount l.items))) × (or_zero (get_by (λ key. bytes_eq q key.now) l.sums) < 2 ^ 63)
