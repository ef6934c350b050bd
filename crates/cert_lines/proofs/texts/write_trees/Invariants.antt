use Rattle.std.proofs.Common.{◌≡◌, ◌++◌, flat_map, take}
use Rattle.cert_lines.specs.Order.{tree_lines}
use Rattle.cert_lines.specs.Texts.{line_text}
use Rattle.cert_lines.proofs.texts.write_trees.Given as goal

abbrev pub invariant-loop-section : goal.invariant-loop-section
invariant-loop-section l = l.text ≡ l.fn.text ++ flat_map (λ section. flat_map line_text (tree_lines section)) (take l.section-index l.sections)
