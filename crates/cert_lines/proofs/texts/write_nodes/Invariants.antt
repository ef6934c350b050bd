use Rattle.std.proofs.Common.{◌≡◌, ◌++◌, flat_map, take}
use Rattle.cert_lines.specs.Order.{node_line}
use Rattle.cert_lines.specs.Texts.{line_text}
use Rattle.cert_lines.proofs.texts.write_nodes.Given as goal

abbrev pub invariant-loop-node : goal.invariant-loop-node
invariant-loop-node l = l.text ≡ l.fn.text ++ flat_map (λ node. line_text (node_line node)) (take l.node-index l.nodes)
