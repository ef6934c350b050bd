use Rattle.std.proofs.Common.{◌≡◌, ◌++◌, flat_map, take}
use Rattle.cert_lines.specs.Order.{fact_lines}
use Rattle.cert_lines.specs.Texts.{line_text}
use Rattle.cert_lines.proofs.texts.write_facts.Given as goal

abbrev pub invariant-loop-fact : goal.invariant-loop-fact
invariant-loop-fact l = l.text ≡ l.fn.text ++ flat_map (λ fact. flat_map line_text (fact_lines fact)) (take l.fact-index l.facts)
