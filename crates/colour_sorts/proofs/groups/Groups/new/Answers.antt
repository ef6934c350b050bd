use Rattle.colour_sorts.proofs.Grouped.{grouped-none}
use Rattle.colour_sorts.proofs.groups.Groups.new.Goals as goal

pub invariant_of-result : goal.invariant_of-result
invariant_of-result c = rw (c.new.ensures, c.new-2.ensures, c.new-3.ensures) grouped-none
