use Rattle.std.proofs.Common.{◌≡◌, ◌+◌, ◌≤◌, ◌++◌, List, ℕ, Result, length}
use Rattle.line_words.specs.Words.{lines_of}
use Rattle.line_words.proofs.cutter.LineCutter.take_piece.Given as goal

abbrev pub invariant-loop-line : goal.invariant-loop-line
invariant-loop-line g l = record {
  follows : (more : List ℕ) (r : Result g.row.D-Value.Denot g.row.D-Fault.Denot)
      → g.D.TakesLines.follows l.self.taker l.self.number (lines_of (l.self.rest.items ++ (l.left ++ more))) r
      → g.D.TakesLines.follows l.fn.self.taker l.fn.self.number (lines_of (l.fn.self.rest.items ++ (l.piece ++ more))) r;
  numbered : l.self.number + length l.left ≤ l.self.fed + 1;
  fed : l.self.fed ≡ l.fn.self.fed + length l.piece;
}

abbrev pub decreases-loop-line : goal.decreases-loop-line
decreases-loop-line g l = length l.left
