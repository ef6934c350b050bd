use Rattle.std.proofs.Common.{◌≡◌, drop}
use Rattle.colour_sorts.specs.Domain.{sort_fault_from}
use Rattle.colour_sorts.specs.Walking.{AreSound}
use Rattle.colour_sorts.proofs.breaking.first_broken.Given as goal

abbrev pub invariant-loop-at : goal.invariant-loop-at
invariant-loop-at l = record {
  sound : AreSound l.sorts l.marks l.at;
  rest : sort_fault_from l.sorts l.at (drop l.at l.sorts) ≡ sort_fault_from l.sorts 0 l.sorts;
}
