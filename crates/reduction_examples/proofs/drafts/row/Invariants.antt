use Rattle.std.proofs.Common.{◌<◌, ◌≤◌, length, All}
use Rattle.reduction_examples.proofs.drafts.row.Given as goal

abbrev pub invariant-loop-cell : goal.invariant-loop-cell
invariant-loop-cell l = record {
  low : All (λ c. c.at < l.next) l.row;
  within : l.next ≤ l.places;
  few : length l.row ≤ l.cell-index;
}
