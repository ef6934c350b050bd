-- Arcs that all together are light enough.
use Rattle.std.proofs.Common.{◌≡◌, ◌∙◌, ◌+◌, ◌<◌, ◌≤◌, ◌^◌, ap, sym, arith, ℕ, Bool, true, false, nat_eq, List, get_or, length, sum_by, take, if◌then◌else◌}
use Rattle.std.proofs.lemmas.List.Sums.{sum_by_more, sum_by_more_le_part}
use Rattle.net_typing.specs.declared.arcs.ArcTyping.{ArcTyping}
use Rattle.net_typing.specs.Weights.{AreWithinWeight, gross_of_arc, gross_with, key_of, weight_among}

part : (same : Bool) (n : ℕ) → (if same then n else 0) ≤ n
part true n = omega arith
part false n = omega arith

pub gross-part : (key : ℕ) (a : ArcTyping) → gross_with key a ≤ gross_of_arc a
gross-part key a = part (nat_eq key (key_of a.ends)) (gross_of_arc a)

pub few-within : (arcs : List ArcTyping) → sum_by gross_of_arc arcs < 2 ^ 63 → AreWithinWeight arcs (length arcs)
few-within arcs few = λ at lt a is.
    let key = key_of a.ends in
    let whole = sum_by_more_le_part (gross_with key) gross_of_arc arcs at a lt (gross-part key) in
    let next = sum_by_more (gross_with key) arcs at a lt in
    let here = gross-part key (get_or arcs at a) in
    omega (arith, few, whole, next, here)
