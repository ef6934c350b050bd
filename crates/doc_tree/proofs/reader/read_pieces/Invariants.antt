use Rattle.std.proofs.Common.{◌≤◌, take, length}
use Rattle.doc_tree.specs.Fed.{joined}
use Rattle.doc_tree.specs.Readers.{HasRead}
use Rattle.doc_tree.proofs.reader.read_pieces.Given as goal

abbrev pub invariant-loop-piece : goal.invariant-loop-piece
invariant-loop-piece l = record {
  read : HasRead l.reader (joined (take l.piece-index l.pieces));
  count : l.reader.count ≤ length (joined (take l.piece-index l.pieces));
}
