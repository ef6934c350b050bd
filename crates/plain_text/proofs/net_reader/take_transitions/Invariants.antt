use Rattle.std.proofs.Common.{length}
use Rattle.plain_text.proofs.net_reader.take_transitions.Given as goal

abbrev pub decreases-loop-alloc : goal.decreases-loop-alloc
decreases-loop-alloc l = length l.source
