use Rattle.std.proofs.Common.{◌++◌, ◌≤◌, ◌+◌, ◌-◌, ℕ, List, take, length}
use Rattle.doc_tree.specs.Readers.{HasRead}
use Rattle.doc_tree.proofs.reader.Reader.read.Given as goal

abbrev pub decreases-loop-at : goal.decreases-loop-at
decreases-loop-at l = length l.piece - l.at

-- the piece is read so far
abbrev pub invariant-loop-at : goal.invariant-loop-at
invariant-loop-at l = record {
  within : l.at ≤ length l.piece;
  read : (b : List ℕ) → HasRead l.fn.self b → HasRead l.self (b ++ take l.at l.piece);
  count : l.self.count ≤ l.fn.self.count + l.at;
}
