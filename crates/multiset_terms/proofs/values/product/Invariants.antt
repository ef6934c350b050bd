use Rattle.std.proofs.Common.{drop}
use Rattle.multiset_terms.specs.Trees.{readings}
use Rattle.multiset_terms.proofs.ValueLaws.{IsFront}
use Rattle.multiset_terms.proofs.values.product.Given as goal

abbrev pub invariant-loop-part : goal.invariant-loop-part
invariant-loop-part l = IsFront (readings l.binding l.parts) (readings l.binding (drop l.part-index l.parts)) l.fronts
