-- What a reader has read.
use Rattle.std.specs.Prelude.{ℕ, List}
use Rattle.doc_tree.specs.declared.reader.Reader.{Reader}
use Rattle.doc_tree.specs.Machine.{state}
use Rattle.doc_tree.specs.Fed.{HasReadBy}

-- the reader was fed these bytes, in any pieces
abbrev pub HasRead : Reader → List ℕ → Type 0
HasRead reader b = HasReadBy reader.fault (state reader.place reader.part reader.opens reader.root) reader.count b
