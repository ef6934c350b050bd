use Rattle.cert_reader.proofs.WrittenTexts.{written_is_read}
use Rattle.cert_reader.proofs.laws.written_certificate_is_read.Goals as goal

pub returns : goal.returns
returns c = written_is_read c.written_line_is_read.ensures
