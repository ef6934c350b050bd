use Rattle.std.proofs.Common.{length}
use Rattle.plain_text.proofs.certificate_reader.take_flows.Given as goal

abbrev pub decreases-loop-alloc : goal.decreases-loop-alloc
decreases-loop-alloc l = length l.source
