use Rattle.cert_lines.proofs.LinesAgain.{written_line_is_read}
use Rattle.cert_lines.proofs.laws.written_line_is_read.Goals as goal

pub returns : goal.returns
returns c = written_line_is_read
