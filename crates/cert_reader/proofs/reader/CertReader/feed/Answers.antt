use Rattle.std.proofs.Common.{◌++◌, Some, Err, subst}
use Rattle.line_words.specs.Readers.{StandsFor}
use Rattle.cert_reader.specs.Reading.{ComesTo, LeadsTo}
use Rattle.cert_reader.proofs.Answered.{refusal_of}
use Rattle.cert_reader.proofs.reader.CertReader.feed.Goals as goal

pub returns-in-Err-clause-fault : goal.returns-in-Err-clause-fault
returns-in-Err-clause-fault c b read =
    let fed = c.feed.new.self in
    refusal_of c.in-Err.fault (b ++ c.args.piece.now)
    (subst (λ o. StandsFor LeadsTo ComesTo fed.cutter.taker fed.cutter.number fed.cutter.rest.items o (b ++ c.args.piece.now)) c.in-Err.ensures.refused (c.in-Err.ensures.stands b read))
