use Rattle.doc_tree.proofs.Answering.{nothing_read_yet}
use Rattle.doc_tree.proofs.reader.Reader.new.Goals as goal

pub returns-clause-read : goal.returns-clause-read
returns-clause-read c = rw c.new.ensures nothing_read_yet
