use Rattle.std.proofs.Common.{length}
use Rattle.plain_text.proofs.certificate_reader.read_flow.Given as goal

abbrev pub decreases-loop-line : goal.decreases-loop-line
decreases-loop-line l = length l.line
