use Rattle.std.proofs.Common.{Bool, true, false}
use Rattle.net_typing.proofs.inscribed.Inscribed.marking.Goals as goal

pub returns-in-Count : goal.returns-in-Count
returns-in-Count c = λ ctx scope. rw c.in-Count.is (c.dots.ensures ctx true 0)
