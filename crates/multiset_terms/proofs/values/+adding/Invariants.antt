use Rattle.std.proofs.Common.{◌≡◌, true, take, drop}
use Rattle.multiset_terms.specs.Added.{AreAdded}
use Rattle.multiset_terms.specs.Trees.{are_sound, readings}
use Rattle.multiset_terms.proofs.values.+adding.Given as goal

-- the buffer has what the parts that were read have
abbrev pub invariant-add_sum-loop-part : goal.invariant-add_sum-loop-part
invariant-add_sum-loop-part l = record {
  rest : are_sound (readings l.binding (drop l.part-index l.parts)) ≡ true;
  added : AreAdded (readings l.binding (take l.part-index l.parts)) l.scale l.fn.cells.items l.cells.items;
}
