use Rattle.std.proofs.Common.{subst, sym}
use Rattle.guard_walks.specs.Walks.{IsOver}
use Rattle.guard_walks.proofs.walks.GuardWalk.new.Goals as goal

pub tests_of-requires-clause-over : goal.tests_of-requires-clause-over
tests_of-requires-clause-over c = subst (IsOver c.args.signature.now c.args.guard) (sym c.as_slice-3.ensures) c.requires.over
