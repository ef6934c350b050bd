use Rattle.std.proofs.Common.{◌≡◌, ◌++◌, take, flat_map}
use Rattle.plain_text.specs.Certificates.{flow_line}
use Rattle.plain_text.proofs.certificate_pieces.put_flows.Given as goal

abbrev pub invariant-loop-flow : goal.invariant-loop-flow
invariant-loop-flow l = l.comparison ≡ l.fn.comparison ++ flat_map flow_line (take l.flow-index l.flows)
