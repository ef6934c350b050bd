use Rattle.std.proofs.Common.{◌≡◌, ◌++◌, take}
use Rattle.reductions.specs.Merging.{numbers_of}
use Rattle.reductions.proofs.keys.put_row.Given as goal

abbrev pub invariant-loop-cell : goal.invariant-loop-cell
invariant-loop-cell l = l.numbers.items ≡ l.fn.numbers.items ++ numbers_of (take l.cell-index l.row)
