use Rattle.std.proofs.Common.{arith}
use Rattle.guard_walk_examples.proofs.walks.kept_by.Goals as goal

pub overflow_add-number : goal.overflow_add-number
overflow_add-number c = let room = c.in-Some.ensures.room in let small = c.requires.walk.small in omega (arith, room, small)
