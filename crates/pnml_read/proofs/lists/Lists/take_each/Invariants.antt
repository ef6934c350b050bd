use Rattle.std.proofs.Common.{◌≡◌, ℕ, drop, length, map}
use Rattle.pnml_read.specs.Nets.{both, given, lists_in}
use Rattle.pnml_read.proofs.lists.Lists.take_each.Given as goal

abbrev pub invariant-loop-at : goal.invariant-loop-at
invariant-loop-at l =
    ((length l.children ≡ length l.fn.children) × (drop l.at l.children ≡ drop l.at l.fn.children))
    × (both l.self (lists_in l.role l.kind (map given (drop l.at l.fn.children))) ≡ both l.fn.self (lists_in l.role l.kind (map given l.fn.children)))
