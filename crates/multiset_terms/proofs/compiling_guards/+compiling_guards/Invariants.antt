use Rattle.std.proofs.Common.{take}
use Rattle.multiset_terms.specs.Context.{Context}
use Rattle.multiset_terms.specs.GuardParts.{AreGuardParts}
use Rattle.multiset_terms.specs.Parts.{IsScope}
use Rattle.multiset_terms.proofs.compiling_guards.+compiling_guards.Given as goal

abbrev pub invariant-guard_parts_of-loop-guard : goal.invariant-guard_parts_of-loop-guard
invariant-guard_parts_of-loop-guard l = (ctx : Context) → IsScope ctx l.fn.domains l.fn.variables → AreGuardParts ctx (take l.guard-index l.guards) l.parts
