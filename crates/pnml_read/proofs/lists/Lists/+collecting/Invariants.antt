use Rattle.std.proofs.Common.{◌≡◌, drop, map}
use Rattle.pnml_read.specs.Nets.{both, given, lists_in}
use Rattle.pnml_read.proofs.lists.Lists.+collecting.Given as goal

abbrev pub invariant-add_all-loop-child : goal.invariant-add_all-loop-child
invariant-add_all-loop-child l =
    both l.self (lists_in l.role l.kind (map given (drop l.child-index l.children))) ≡ both l.fn.self (lists_in l.role l.kind (map given l.children))
