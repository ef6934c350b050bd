use Rattle.std.proofs.Common.{◌++◌}
use Rattle.doc_tree.proofs.Answering.{fault_stays, finish_fault}
use Rattle.doc_tree.proofs.feeding.ReaderPieceReader.feed.Goals as goal

pub returns-in-Err-clause-refused : goal.returns-in-Err-clause-refused
returns-in-Err-clause-refused c b more read =
    let fault = c.in-Err.fault in
    let fed = b ++ c.args.piece.now in
    finish_fault fault (fed ++ more) (fault_stays fault fed more (c.in-Err.ensures.answer b read))
