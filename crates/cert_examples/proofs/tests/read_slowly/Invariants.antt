use Rattle.std.proofs.Common.{◌≤◌}
use Rattle.cert_examples.proofs.tests.read_slowly.Given as goal

abbrev pub invariant-loop-at : goal.invariant-loop-at
invariant-loop-at l = l.reader.lines.cutter.fed ≤ l.at
