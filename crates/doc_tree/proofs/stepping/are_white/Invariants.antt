use Rattle.std.proofs.Common.{◌≡◌, drop}
use Rattle.doc_tree.specs.Documents.{are_white}
use Rattle.doc_tree.proofs.stepping.are_white.Given as goal

abbrev pub invariant-loop-byte : goal.invariant-loop-byte
invariant-loop-byte l = are_white l.bytes ≡ are_white (drop l.byte-index l.bytes)
