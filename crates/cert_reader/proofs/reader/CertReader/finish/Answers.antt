use Rattle.cert_reader.proofs.Answered.{certificate_answer}
use Rattle.cert_reader.proofs.reader.CertReader.finish.Goals as goal

pub returns-clause-read : goal.returns-clause-read
returns-clause-read c b read = certificate_answer b c.finish.result (c.finish.ensures.answers b read)
