use Rattle.std.proofs.Common.{take}
use Rattle.multiset_terms.specs.Context.{Context}
use Rattle.multiset_terms.specs.Parts.{AreChildren, IsScope}
use Rattle.multiset_terms.proofs.compiling.+compiling.Given as goal

abbrev pub invariant-parts_of-loop-term : goal.invariant-parts_of-loop-term
invariant-parts_of-loop-term l = (ctx : Context) → IsScope ctx l.fn.domains l.fn.variables → AreChildren ctx l.fn.marking (take l.term-index l.terms) l.children
